-- Which notes may stand for one another. (docs/CERTIFICATES.md)
use Rattle.std.specs.Bool.{beq}
use Rattle.std.specs.Prelude.{ℕ, ◌==◌, ◌&&◌, ◌||◌, not, Bool, true, false, if◌then◌else◌, List, [], ◌∷◌, length, is_some, slice_get}
use Rattle.std.specs.Option.{option_map_or}
use Rattle.cert_format.specs.declared.note.Note.{Note}
use Rattle.cert_format.specs.declared.note.Note.TheVariants as notes
use Rattle.cert_format.specs.declared.note.Phase8.{Phase8}
use Rattle.cert_format.specs.declared.note.Phase8.TheVariants.{Before, After, Exceptional}
use Rattle.cert_format.specs.declared.note.Site.{Site}
use Rattle.cert_format.specs.declared.note.Term.{Term}
use Rattle.conspec_automaton.specs.declared.policy.Branch.{Branch}
use Rattle.conspec_automaton.specs.declared.policy.Clause.{Clause}
use Rattle.conspec_automaton.specs.declared.policy.Policy.{Policy}
use Rattle.conspec_automaton.specs.Next.{has_clauses}
use Rattle.block_logic.specs.Annotations.{holds_round}
use Rattle.block_logic.specs.declared.held_calls.HeldCalls.{HeldCalls}
use Rattle.block_logic.specs.Clauses.{clause_at, clause_of, result_kind}
use Rattle.block_logic.specs.Terms.{after_updates, as_taken, same_terms}

-- ---- sites

abbrev pub is_before : Phase8 → Bool
is_before Before = true
is_before After = false
is_before Exceptional = false

abbrev pub is_after : Phase8 → Bool
is_after Before = false
is_after After = true
is_after Exceptional = false

abbrev pub is_exceptional : Phase8 → Bool
is_exceptional Before = false
is_exceptional After = false
is_exceptional Exceptional = true

abbrev pub same_phase : Phase8 → Phase8 → Bool
same_phase Before phase = is_before phase
same_phase After phase = is_after phase
same_phase Exceptional phase = is_exceptional phase

abbrev pub same_site : Site → Site → Bool
same_site s t = (s.method == t.method) && (same_phase s.phase t.phase && (s.base == t.base))

-- the site of the same call in another phase
abbrev pub in_phase : Phase8 → Site → Site
in_phase phase site = record { method = site.method; phase = phase; base = site.base }

-- ---- the same note

abbrev pub same_note : Note → Note → Bool
same_note notes.Free notes.Free = true
same_note (notes.Taking s) (notes.Taking t) = same_site s t
same_note (notes.Held s failed holding terms map) (notes.Held t failing holds others fields) =
    same_site s t && ((failed == failing) && ((holding == holds) && (same_terms terms others && same_terms map fields)))
same_note (notes.Granted s locked loaded top) (notes.Granted t holds pushed on) =
    same_site s t && (beq locked holds && ((loaded == pushed) && beq top on))
same_note (notes.Owed s stage kept top) (notes.Owed t due keeps on) = same_site s t && ((stage == due) && (beq kept keeps && beq top on))
same_note (notes.Stop s place) (notes.Stop t at) = same_site s t && (place == at)
same_note note other = false

-- ---- a check

-- the branches of a site's clause
abbrev pub branches_of : Policy → Site → List Branch
branches_of policy site = option_map_or (λ (c : Clause). c.branches) (clause_of policy site) []

-- It has begun: no branch is tried, and no variable is written.
abbrev pub begun : Policy → Site → Note
begun policy site = notes.Held site 0 0 [] (as_taken policy)

-- All atoms of a branch hold, and its updates are made.
abbrev pub is_done : Policy → Site → ℕ → ℕ → List Term → Bool
is_done policy site failed holding map =
    option_map_or (λ (b : Branch). (holding == length b.atoms) && same_terms map (after_updates policy b.updates)) (slice_get (branches_of policy site) failed) false

-- Each branch of the clause fails.
abbrev pub fails : Policy → Site → ℕ → Bool
fails policy site failed = is_some (clause_of policy site) && (failed == length (branches_of policy site))

-- After a call that gave a result, the result is kept while a check is made.
abbrev pub asks_kept : Policy → Site → Bool
asks_kept policy site = is_after site.phase && is_some (result_kind policy site.method)

-- what is so once the check is done, with the lock still held
abbrev pub done : Policy → Site → Note
done policy site = if is_before site.phase then notes.Granted site true 0 false else notes.Owed site 2 (asks_kept policy site) false

-- ---- which may stand

abbrev pub is_empty : {A : Type 0} → List A → Bool
is_empty [] = true
is_empty (x ∷ xs) = false

-- for the note of a check that was made so far: itself; where it is done, and nothing is pushed, what comes then; where each branch
-- fails, the way out
abbrev pub stands_for_held : Policy → Site → ℕ → ℕ → List Term → List Term → Note → Bool
stands_for_held policy site failed holding terms map note =
    same_note (notes.Held site failed holding terms map) note
    || (((is_done policy site failed holding map && is_empty terms) && same_note (done policy site) note)
    || (fails policy site failed && same_note (notes.Stop site 0) note))

-- Where the update is due with the lock held, its check may have begun.
abbrev pub may_begin : Policy → Site → ℕ → Bool → Bool → Bool
may_begin policy site stage kept top = (stage == 1) && (not top && (is_some (clause_of policy site) && beq kept (asks_kept policy site)))

-- the note at an instruction, in the place of one that is given
abbrev pub may_stand : Policy → Note → Note → Bool
may_stand policy notes.Free note = same_note notes.Free note
may_stand policy (notes.Taking site) note = same_note (notes.Taking site) note
may_stand policy (notes.Held site failed holding terms map) note = stands_for_held policy site failed holding terms map note
may_stand policy (notes.Granted site locked loaded top) note = same_note (notes.Granted site locked loaded top) note
may_stand policy (notes.Owed site stage kept top) note =
    same_note (notes.Owed site stage kept top) note
    || (may_begin policy site stage kept top && stands_for_held policy site 0 0 [] (as_taken policy) note)
may_stand policy (notes.Stop site place) note = same_note (notes.Stop site place) note

-- ---- no block

-- A call with clauses, of which none is before it, needs no lock where the lock is not held round calls of its method.
abbrev pub needs_no_grant : HeldCalls → Policy → Site → Bool
needs_no_grant held policy site = not (holds_round held site.method) && (has_clauses policy site.method && not (is_some (clause_at policy site.method Before)))

-- The thread is in no block: in the client's code, or before a call that needs no lock.
abbrev pub is_open : HeldCalls → Policy → Note → Bool
is_open held policy notes.Free = true
is_open held policy (notes.Taking site) = false
is_open held policy (notes.Held site failed holding terms map) = false
is_open held policy (notes.Granted site locked loaded top) = needs_no_grant held policy site && (not locked && ((loaded == 0) && not top))
is_open held policy (notes.Owed site stage kept top) = false
is_open held policy (notes.Stop site place) = false

-- The lock is about to be taken before a call that the policy has a clause for.
abbrev pub takes_for_call : Policy → Note → Bool
takes_for_call policy notes.Free = false
takes_for_call policy (notes.Taking site) = is_before site.phase && has_clauses policy site.method
takes_for_call policy (notes.Held site failed holding terms map) = false
takes_for_call policy (notes.Granted site locked loaded top) = false
takes_for_call policy (notes.Owed site stage kept top) = false
takes_for_call policy (notes.Stop site place) = false
