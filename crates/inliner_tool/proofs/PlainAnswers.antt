-- Plain answers fit: a thread of a linked program with types takes the plain answer to the call that it waits in, or null.
use Rattle.std.proofs.Common.{◌≡◌, ◌⊎◌, ℕ, zero, suc, Bool, true, false, cond, ◌&&◌, Option, Some, None, refl, sym, subst, ◌∙◌, arith, inl, inr}
use Rattle.std.specs.Prelude.{pos, ◌==◌}
use Rattle.std.proofs.lemmas.Bool.{and_parts, cases_Bool, eqb-true, true≢false}
use Rattle.api_listing.specs.declared.descriptor.Element.{Element}
use Rattle.api_listing.specs.declared.descriptor.Element.TheVariants as elements
use Rattle.api_listing.specs.declared.descriptor.FieldType.{FieldType}
use Rattle.api_listing.specs.declared.events.ApiAnswer.{ApiAnswer}
use Rattle.api_listing.specs.declared.events.ApiAnswer.TheVariants as answers
use Rattle.api_listing.specs.declared.events.ApiCall.{ApiCall}
use Rattle.api_shelf.specs.Plain.{PlainIsByType, plain_answer, plain_for}
use Rattle.bytecode_model.specs.declared.program.Program.{Program}
use Rattle.bytecode_model.specs.Typed.{IsTyped}
use Rattle.cert_format.specs.declared.typing.Typing.{Typing}
use Rattle.guest_model.specs.declared.machine.Machine.{Machine}
use Rattle.guest_model.specs.Asking.{takes_answer}
use Rattle.guest_model.specs.Numbers.{is_of_numbers, is_primitive}
use Rattle.guest_runner.specs.PlainAnswers.{PlainAnswersFit, plain_or_null}
use Rattle.typed_runs.specs.Answers.{AnswersFitByType, TakesByType}
use Rattle.typed_runs.specs.Programs.{IsLinkedProgram}

-- the plain answer is 0 where the result is a number
number_plain : (call : ApiCall) (dimensions : ℕ) (element : Element) → ((dimensions == 0) && is_primitive element) ≡ true
    → plain_for call (Some (record { dimensions = dimensions; element = element })) ≡ answers.Int (pos 0)
number_plain call zero elements.Boolean e = refl
number_plain call zero elements.Byte e = refl
number_plain call zero elements.Char e = refl
number_plain call zero elements.Short e = refl
number_plain call zero elements.Int e = refl
number_plain call zero (elements.Class name) e = absurd cc
number_plain call (suc n) element e =
    let none : suc n ≡ 0 = eqb-true (suc n) 0 (and_parts (suc n == 0) (is_primitive element) e).0 in
    absurd (omega (arith, none))

module _ (program : Program) (machine : Machine) (thread : ℕ) (call : ApiCall) where
  abbrev Takes : ApiAnswer → Type 0
  Takes answer = takes_answer program machine thread answer ≡ true

  -- one of the two fits
  abbrev TakesOne : ApiAnswer → Type 0
  TakesOne plain = Takes plain ⊎ Takes answers.Null

  one_by : (plain : ApiAnswer) → TakesOne plain → (b : Bool) → takes_answer program machine thread plain ≡ b → Takes (cond b plain answers.Null)
  one_by plain one true is = is
  one_by plain (inl fits) false is = absurd (true≢false (sym fits ∙ is))
  one_by plain (inr null) false is = null

  plain_or_null_fits : TakesOne (plain_answer call) → Takes (plain_or_null program machine thread call)
  plain_or_null_fits one = one_by (plain_answer call) one (takes_answer program machine thread (plain_answer call)) refl

  module _ (by_type : PlainIsByType) (takes : TakesByType program machine thread call) where
    by_result : (result : Option FieldType) → takes.types.result ≡ result → TakesOne (plain_for call result)
    by_result None is = inl (takes.nothing is)
    by_result (Some t) is =
        elim (cases_Bool (is_of_numbers t)) [
          | inl numbers ↦
              inl (subst (λ (answer : ApiAnswer). Takes answer) (sym (number_plain call t.dimensions t.element numbers)) (takes.number t is numbers))
          | inr other ↦ inr (takes.null t is other)
        ]

    pub plainly_taken : Takes (plain_or_null program machine thread call)
    plainly_taken =
        plain_or_null_fits (subst (λ (answer : ApiAnswer). TakesOne answer) (sym (by_type call takes.types takes.described)) (by_result takes.types.result refl))

pub plain_answers_fit : PlainIsByType → AnswersFitByType → (program : Program) (typing : Typing) → IsLinkedProgram program → IsTyped program typing
    → PlainAnswersFit program
plain_answers_fit by_type law program typing links typed steps thread call enabled asked =
    plainly_taken program _ thread call by_type (law program typing (record { links = links; typed = typed }) steps thread call enabled asked)
