-- Words are those of one command, and name one set of files for it.
use Rattle.std.proofs.Common.{◌≡◌, ℕ, ◌+◌, ◌*◌, List, [], ◌∷◌, get_or, refl, sym, ap, ◌∙◌, arith}
use Rattle.std.specs.Prelude.{codes, decimal}
use Rattle.std.proofs.lemmas.Fmt.{decimal_injective}
use Rattle.command_inputs.specs.declared.inline_words.Weaving.{Weaving}
use Rattle.command_inputs.specs.declared.inline_words.Weaving.TheVariants.{Auto, Hold, Release}
use Rattle.command_inputs.specs.GenWords.{IsProgramOf, NamedGen}
use Rattle.command_inputs.specs.InlineWords.{IsInline, NamedInline, weaving_word}
use Rattle.command_inputs.specs.LiftWords.{IsLift, NamedLift}
use Rattle.command_inputs.specs.ReplayWords.{IsReplay, NamedReplay}
use Rattle.command_inputs.specs.Words.{Check, Gen, Inline, IsCheck, IsCommand, IsPolicyCommand, IsRace, IsShow, Lift, Load, NamedCheck, NamedCommand, NamedPolicy, NamedRace, NamedShow, NamedRun, Policy, Race, Replay, Run, IsRunCommand, Show, Encodes}

-- ---- the command inline

-- the first letter of a word
abbrev first : List ℕ → ℕ
first word = get_or word 0 0

same_weaving : (a b : Weaving) → weaving_word a ≡ weaving_word b → a ≡ b
same_weaving Auto Auto e = refl
same_weaving Auto Hold e = let wrong : 97 ≡ 104 = ap first e in absurd (omega (arith, wrong))
same_weaving Auto Release e = let wrong : 97 ≡ 114 = ap first e in absurd (omega (arith, wrong))
same_weaving Hold Auto e = let wrong : 104 ≡ 97 = ap first e in absurd (omega (arith, wrong))
same_weaving Hold Hold e = refl
same_weaving Hold Release e = let wrong : 104 ≡ 114 = ap first e in absurd (omega (arith, wrong))
same_weaving Release Auto e = let wrong : 114 ≡ 97 = ap first e in absurd (omega (arith, wrong))
same_weaving Release Hold e = let wrong : 114 ≡ 104 = ap first e in absurd (omega (arith, wrong))
same_weaving Release Release e = refl

abbrev words_of : NamedInline → List (List ℕ)
words_of named = codes "inline" ∷ named.policy ∷ named.listing ∷ named.main ∷ named.folder ∷ weaving_word named.weaving ∷ named.classes

pub same_inline : (words : List (List ℕ)) (a b : NamedInline) → IsInline words a → IsInline words b → a ≡ b
same_inline words a b of_a of_b =
    let e : words_of a ≡ words_of b = sym of_a.encoded ∙ of_b.encoded in
    let policy : a.policy ≡ b.policy = cc in
    let listing : a.listing ≡ b.listing = cc in
    let main : a.main ≡ b.main = cc in
    let folder : a.folder ≡ b.folder = cc in
    let word : weaving_word a.weaving ≡ weaving_word b.weaving = cc in
    let weaving : a.weaving ≡ b.weaving = same_weaving a.weaving b.weaving word in
    let classes : a.classes ≡ b.classes = cc in
    let whole : a ≡ record { policy = b.policy; listing = b.listing; main = b.main; folder = b.folder; weaving = b.weaving; classes = b.classes } =
    rw (← policy, ← listing, ← main, ← folder, ← weaving, ← classes) refl in
    whole

-- ---- the other commands

abbrev words_of_check : NamedCheck → List (List ℕ)
words_of_check named = codes "check" ∷ named.policy ∷ named.listing ∷ named.certificate ∷ named.main ∷ named.classes

same_check : (words : List (List ℕ)) (a b : NamedCheck) → IsCheck words a → IsCheck words b → a ≡ b
same_check words a b of_a of_b =
    let e : words_of_check a ≡ words_of_check b = sym of_a.encoded ∙ of_b.encoded in
    let policy : a.policy ≡ b.policy = cc in
    let listing : a.listing ≡ b.listing = cc in
    let certificate : a.certificate ≡ b.certificate = cc in
    let main : a.main ≡ b.main = cc in
    let classes : a.classes ≡ b.classes = cc in
    let whole : a ≡ record { policy = b.policy; listing = b.listing; certificate = b.certificate; main = b.main; classes = b.classes } = rw (← policy, ← listing, ← certificate, ← main, ← classes) refl in
    whole

abbrev words_of_show : NamedShow → List (List ℕ)
words_of_show named = codes "show" ∷ named.listing ∷ named.classes

same_show : (words : List (List ℕ)) (a b : NamedShow) → IsShow words a → IsShow words b → a ≡ b
same_show words a b of_a of_b =
    let e : words_of_show a ≡ words_of_show b = sym of_a.encoded ∙ of_b.encoded in
    let listing : a.listing ≡ b.listing = cc in
    let classes : a.classes ≡ b.classes = cc in
    let whole : a ≡ record { listing = b.listing; classes = b.classes } = rw (← listing, ← classes) refl in
    whole

abbrev words_of_policy : NamedPolicy → List (List ℕ)
words_of_policy named = codes "policy" ∷ named.policy ∷ named.listing ∷ named.recorded ∷ []

same_policy : (words : List (List ℕ)) (a b : NamedPolicy) → IsPolicyCommand words a → IsPolicyCommand words b → a ≡ b
same_policy words a b of_a of_b =
    let e : words_of_policy a ≡ words_of_policy b = sym of_a.encoded ∙ of_b.encoded in
    let policy : a.policy ≡ b.policy = cc in
    let listing : a.listing ≡ b.listing = cc in
    let recorded : a.recorded ≡ b.recorded = cc in
    let whole : a ≡ record { policy = b.policy; listing = b.listing; recorded = b.recorded } = rw (← policy, ← listing, ← recorded) refl in
    whole

abbrev words_of_race : NamedRace → List (List ℕ)
words_of_race named = codes "race" ∷ named.policy ∷ named.listing ∷ []

same_race : (words : List (List ℕ)) (a b : NamedRace) → IsRace words a → IsRace words b → a ≡ b
same_race words a b of_a of_b =
    let e : words_of_race a ≡ words_of_race b = sym of_a.encoded ∙ of_b.encoded in
    let policy : a.policy ≡ b.policy = cc in
    let listing : a.listing ≡ b.listing = cc in
    let whole : a ≡ record { policy = b.policy; listing = b.listing } = rw (← policy, ← listing) refl in
    whole

abbrev words_of_replay : NamedReplay → List (List ℕ)
words_of_replay named = codes "replay" ∷ named.listing ∷ named.main ∷ named.recorded ∷ named.classes

same_replay : (words : List (List ℕ)) (a b : NamedReplay) → IsReplay words a → IsReplay words b → a ≡ b
same_replay words a b of_a of_b =
    let e : words_of_replay a ≡ words_of_replay b = sym of_a.encoded ∙ of_b.encoded in
    let listing : a.listing ≡ b.listing = cc in
    let main : a.main ≡ b.main = cc in
    let recorded : a.recorded ≡ b.recorded = cc in
    let classes : a.classes ≡ b.classes = cc in
    let whole : a ≡ record { listing = b.listing; main = b.main; recorded = b.recorded; classes = b.classes } = rw (← listing, ← main, ← recorded, ← classes) refl in
    whole

abbrev words_of_lift : NamedLift → List (List ℕ)
words_of_lift named = codes "lift" ∷ named.policy ∷ named.listing ∷ named.main ∷ named.recorded ∷ named.classes

same_lift : (words : List (List ℕ)) (a b : NamedLift) → IsLift words a → IsLift words b → a ≡ b
same_lift words a b of_a of_b =
    let e : words_of_lift a ≡ words_of_lift b = sym of_a.encoded ∙ of_b.encoded in
    let policy : a.policy ≡ b.policy = cc in
    let listing : a.listing ≡ b.listing = cc in
    let main : a.main ≡ b.main = cc in
    let recorded : a.recorded ≡ b.recorded = cc in
    let classes : a.classes ≡ b.classes = cc in
    let whole : a ≡ record { policy = b.policy; listing = b.listing; main = b.main; recorded = b.recorded; classes = b.classes } = rw (← policy, ← listing, ← main, ← recorded, ← classes) refl in
    whole

-- ---- any command

-- a number by which the words that name commands are told apart
abbrev mark : List ℕ → ℕ
mark word = get_or word 0 0 * 1000 + get_or word 1 0

abbrev marked : List (List ℕ) → ℕ
marked [] = 0
marked (word ∷ words) = mark word

abbrev words_of_run : NamedRun → List (List ℕ)
words_of_run named =
    codes "run" ∷ named.check.policy ∷ named.check.listing ∷ named.check.certificate ∷ named.check.main ∷ decimal named.workers ∷ decimal named.budget
    ∷ named.check.classes

same_run : (words : List (List ℕ)) (a b : NamedRun) → IsRunCommand words a → IsRunCommand words b → a ≡ b
same_run words a b of_a of_b =
    let e : words_of_run a ≡ words_of_run b = sym of_a.encoded ∙ of_b.encoded in
    let policy : a.check.policy ≡ b.check.policy = cc in
    let listing : a.check.listing ≡ b.check.listing = cc in
    let certificate : a.check.certificate ≡ b.check.certificate = cc in
    let main : a.check.main ≡ b.check.main = cc in
    let workers : decimal a.workers ≡ decimal b.workers = cc in
    let budget : decimal a.budget ≡ decimal b.budget = cc in
    let classes : a.check.classes ≡ b.check.classes = cc in
    let as_many : a.workers ≡ b.workers = decimal_injective a.workers b.workers (omega (arith, of_a.workers.within)) (omega (arith, of_b.workers.within)) workers in
    let as_far : a.budget ≡ b.budget = decimal_injective a.budget b.budget (omega (arith, of_a.budget.within)) (omega (arith, of_b.budget.within)) budget in
    let check : a.check ≡ b.check =
    rw (← policy, ← listing, ← certificate, ← main, ← classes) refl in
    let whole : a ≡ record { check = b.check; workers = b.workers; budget = b.budget } = rw (← check, ← as_many, ← as_far) refl in
    whole

abbrev words_of_program : List ℕ → NamedGen → List (List ℕ)
words_of_program command named = command ∷ decimal named.seed ∷ decimal named.classes ∷ decimal named.sites ∷ named.folder ∷ []

same_program : (command : List ℕ) (words : List (List ℕ)) (a b : NamedGen) → IsProgramOf command words a → IsProgramOf command words b → a ≡ b
same_program command words a b of_a of_b =
    let e : words_of_program command a ≡ words_of_program command b = sym of_a.encoded ∙ of_b.encoded in
    let seed : decimal a.seed ≡ decimal b.seed = cc in
    let classes : decimal a.classes ≡ decimal b.classes = cc in
    let sites : decimal a.sites ≡ decimal b.sites = cc in
    let folder : a.folder ≡ b.folder = cc in
    let one_seed : a.seed ≡ b.seed = decimal_injective a.seed b.seed (omega (arith, of_a.bounds.seed.within)) (omega (arith, of_b.bounds.seed.within)) seed in
    let as_many : a.classes ≡ b.classes =
    decimal_injective a.classes b.classes (omega (arith, of_a.bounds.classes.within)) (omega (arith, of_b.bounds.classes.within)) classes in
    let as_full : a.sites ≡ b.sites = decimal_injective a.sites b.sites (omega (arith, of_a.bounds.sites.within)) (omega (arith, of_b.bounds.sites.within)) sites in
    let whole : a ≡ record { seed = b.seed; classes = b.classes; sites = b.sites; folder = b.folder } = rw (← one_seed, ← as_many, ← as_full, ← folder) refl in
    whole

abbrev mark_of : NamedCommand → ℕ
mark_of (Check named) = 99104
mark_of (Show named) = 115104
mark_of (Policy named) = 112111
mark_of (Race named) = 114097
mark_of (Inline named) = 105110
mark_of (Replay named) = 114101
mark_of (Lift named) = 108105
mark_of (Run named) = 114117
mark_of (Gen named) = 103101
mark_of (Load named) = 108111

marks : (words : List (List ℕ)) (named : NamedCommand) → Encodes words named → marked words ≡ mark_of named
marks words (Check named) encoded = ap marked encoded.encoded
marks words (Show named) encoded = ap marked encoded.encoded
marks words (Policy named) encoded = ap marked encoded.encoded
marks words (Race named) encoded = ap marked encoded.encoded
marks words (Inline named) encoded = ap marked encoded.encoded
marks words (Replay named) encoded = ap marked encoded.encoded
marks words (Lift named) encoded = ap marked encoded.encoded
marks words (Run named) encoded = ap marked encoded.encoded
marks words (Gen named) encoded = ap marked encoded.encoded
marks words (Load named) encoded = ap marked encoded.encoded

same_command : (words : List (List ℕ)) (a b : NamedCommand) → mark_of a ≡ mark_of b → Encodes words a → Encodes words b → a ≡ b
same_command words (Check a) (Check b) e of_a of_b = ap Check (same_check words a b of_a of_b)
same_command words (Check a) (Show b) e of_a of_b = absurd (omega (arith, e))
same_command words (Check a) (Policy b) e of_a of_b = absurd (omega (arith, e))
same_command words (Check a) (Race b) e of_a of_b = absurd (omega (arith, e))
same_command words (Check a) (Inline b) e of_a of_b = absurd (omega (arith, e))
same_command words (Check a) (Replay b) e of_a of_b = absurd (omega (arith, e))
same_command words (Check a) (Lift b) e of_a of_b = absurd (omega (arith, e))
same_command words (Check a) (Run b) e of_a of_b = absurd (omega (arith, e))
same_command words (Check a) (Gen b) e of_a of_b = absurd (omega (arith, e))
same_command words (Check a) (Load b) e of_a of_b = absurd (omega (arith, e))
same_command words (Show a) (Check b) e of_a of_b = absurd (omega (arith, e))
same_command words (Show a) (Show b) e of_a of_b = ap Show (same_show words a b of_a of_b)
same_command words (Show a) (Policy b) e of_a of_b = absurd (omega (arith, e))
same_command words (Show a) (Race b) e of_a of_b = absurd (omega (arith, e))
same_command words (Show a) (Inline b) e of_a of_b = absurd (omega (arith, e))
same_command words (Show a) (Replay b) e of_a of_b = absurd (omega (arith, e))
same_command words (Show a) (Lift b) e of_a of_b = absurd (omega (arith, e))
same_command words (Show a) (Run b) e of_a of_b = absurd (omega (arith, e))
same_command words (Show a) (Gen b) e of_a of_b = absurd (omega (arith, e))
same_command words (Show a) (Load b) e of_a of_b = absurd (omega (arith, e))
same_command words (Policy a) (Check b) e of_a of_b = absurd (omega (arith, e))
same_command words (Policy a) (Show b) e of_a of_b = absurd (omega (arith, e))
same_command words (Policy a) (Policy b) e of_a of_b = ap Policy (same_policy words a b of_a of_b)
same_command words (Policy a) (Race b) e of_a of_b = absurd (omega (arith, e))
same_command words (Policy a) (Inline b) e of_a of_b = absurd (omega (arith, e))
same_command words (Policy a) (Replay b) e of_a of_b = absurd (omega (arith, e))
same_command words (Policy a) (Lift b) e of_a of_b = absurd (omega (arith, e))
same_command words (Policy a) (Run b) e of_a of_b = absurd (omega (arith, e))
same_command words (Policy a) (Gen b) e of_a of_b = absurd (omega (arith, e))
same_command words (Policy a) (Load b) e of_a of_b = absurd (omega (arith, e))
same_command words (Race a) (Check b) e of_a of_b = absurd (omega (arith, e))
same_command words (Race a) (Show b) e of_a of_b = absurd (omega (arith, e))
same_command words (Race a) (Policy b) e of_a of_b = absurd (omega (arith, e))
same_command words (Race a) (Race b) e of_a of_b = ap Race (same_race words a b of_a of_b)
same_command words (Race a) (Inline b) e of_a of_b = absurd (omega (arith, e))
same_command words (Race a) (Replay b) e of_a of_b = absurd (omega (arith, e))
same_command words (Race a) (Lift b) e of_a of_b = absurd (omega (arith, e))
same_command words (Race a) (Run b) e of_a of_b = absurd (omega (arith, e))
same_command words (Race a) (Gen b) e of_a of_b = absurd (omega (arith, e))
same_command words (Race a) (Load b) e of_a of_b = absurd (omega (arith, e))
same_command words (Inline a) (Check b) e of_a of_b = absurd (omega (arith, e))
same_command words (Inline a) (Show b) e of_a of_b = absurd (omega (arith, e))
same_command words (Inline a) (Policy b) e of_a of_b = absurd (omega (arith, e))
same_command words (Inline a) (Race b) e of_a of_b = absurd (omega (arith, e))
same_command words (Inline a) (Inline b) e of_a of_b = ap Inline (same_inline words a b of_a of_b)
same_command words (Inline a) (Replay b) e of_a of_b = absurd (omega (arith, e))
same_command words (Inline a) (Lift b) e of_a of_b = absurd (omega (arith, e))
same_command words (Inline a) (Run b) e of_a of_b = absurd (omega (arith, e))
same_command words (Inline a) (Gen b) e of_a of_b = absurd (omega (arith, e))
same_command words (Inline a) (Load b) e of_a of_b = absurd (omega (arith, e))
same_command words (Replay a) (Check b) e of_a of_b = absurd (omega (arith, e))
same_command words (Replay a) (Show b) e of_a of_b = absurd (omega (arith, e))
same_command words (Replay a) (Policy b) e of_a of_b = absurd (omega (arith, e))
same_command words (Replay a) (Race b) e of_a of_b = absurd (omega (arith, e))
same_command words (Replay a) (Inline b) e of_a of_b = absurd (omega (arith, e))
same_command words (Replay a) (Replay b) e of_a of_b = ap Replay (same_replay words a b of_a of_b)
same_command words (Replay a) (Lift b) e of_a of_b = absurd (omega (arith, e))
same_command words (Replay a) (Run b) e of_a of_b = absurd (omega (arith, e))
same_command words (Replay a) (Gen b) e of_a of_b = absurd (omega (arith, e))
same_command words (Replay a) (Load b) e of_a of_b = absurd (omega (arith, e))
same_command words (Lift a) (Check b) e of_a of_b = absurd (omega (arith, e))
same_command words (Lift a) (Show b) e of_a of_b = absurd (omega (arith, e))
same_command words (Lift a) (Policy b) e of_a of_b = absurd (omega (arith, e))
same_command words (Lift a) (Race b) e of_a of_b = absurd (omega (arith, e))
same_command words (Lift a) (Inline b) e of_a of_b = absurd (omega (arith, e))
same_command words (Lift a) (Replay b) e of_a of_b = absurd (omega (arith, e))
same_command words (Lift a) (Lift b) e of_a of_b = ap Lift (same_lift words a b of_a of_b)
same_command words (Lift a) (Run b) e of_a of_b = absurd (omega (arith, e))
same_command words (Lift a) (Gen b) e of_a of_b = absurd (omega (arith, e))
same_command words (Lift a) (Load b) e of_a of_b = absurd (omega (arith, e))
same_command words (Run a) (Check b) e of_a of_b = absurd (omega (arith, e))
same_command words (Run a) (Show b) e of_a of_b = absurd (omega (arith, e))
same_command words (Run a) (Policy b) e of_a of_b = absurd (omega (arith, e))
same_command words (Run a) (Race b) e of_a of_b = absurd (omega (arith, e))
same_command words (Run a) (Inline b) e of_a of_b = absurd (omega (arith, e))
same_command words (Run a) (Replay b) e of_a of_b = absurd (omega (arith, e))
same_command words (Run a) (Lift b) e of_a of_b = absurd (omega (arith, e))
same_command words (Run a) (Run b) e of_a of_b = ap Run (same_run words a b of_a of_b)
same_command words (Run a) (Gen b) e of_a of_b = absurd (omega (arith, e))
same_command words (Run a) (Load b) e of_a of_b = absurd (omega (arith, e))
same_command words (Gen a) (Check b) e of_a of_b = absurd (omega (arith, e))
same_command words (Gen a) (Show b) e of_a of_b = absurd (omega (arith, e))
same_command words (Gen a) (Policy b) e of_a of_b = absurd (omega (arith, e))
same_command words (Gen a) (Race b) e of_a of_b = absurd (omega (arith, e))
same_command words (Gen a) (Inline b) e of_a of_b = absurd (omega (arith, e))
same_command words (Gen a) (Replay b) e of_a of_b = absurd (omega (arith, e))
same_command words (Gen a) (Lift b) e of_a of_b = absurd (omega (arith, e))
same_command words (Gen a) (Run b) e of_a of_b = absurd (omega (arith, e))
same_command words (Gen a) (Gen b) e of_a of_b = ap Gen (same_program (codes "gen") words a b of_a of_b)
same_command words (Gen a) (Load b) e of_a of_b = absurd (omega (arith, e))
same_command words (Load a) (Check b) e of_a of_b = absurd (omega (arith, e))
same_command words (Load a) (Show b) e of_a of_b = absurd (omega (arith, e))
same_command words (Load a) (Policy b) e of_a of_b = absurd (omega (arith, e))
same_command words (Load a) (Race b) e of_a of_b = absurd (omega (arith, e))
same_command words (Load a) (Inline b) e of_a of_b = absurd (omega (arith, e))
same_command words (Load a) (Replay b) e of_a of_b = absurd (omega (arith, e))
same_command words (Load a) (Lift b) e of_a of_b = absurd (omega (arith, e))
same_command words (Load a) (Run b) e of_a of_b = absurd (omega (arith, e))
same_command words (Load a) (Gen b) e of_a of_b = absurd (omega (arith, e))
same_command words (Load a) (Load b) e of_a of_b = ap Load (same_program (codes "load") words a b of_a of_b)

-- Words are those of one command.
pub command_once : (words : List (List ℕ)) (a b : NamedCommand) → IsCommand words a → IsCommand words b → a ≡ b
command_once words a b of_a of_b = same_command words a b (sym (marks words a of_a.encoded) ∙ marks words b of_b.encoded) of_a.encoded of_b.encoded
