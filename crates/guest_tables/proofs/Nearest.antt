-- The nearest given class that declares a method.
use Rattle.std.proofs.Common.{◌≡◌, ℕ, suc, List, Option, Some, None, ap, sym, ◌∙◌}
use Rattle.std.specs.Prelude.{slice_get}
use Rattle.std.specs.Option.{option_and_then, option_map, option_or}
use Rattle.bytecode_model.specs.declared.program.LinkedClass.{LinkedClass}
use Rattle.bytecode_model.specs.declared.program.Program.{Program}
use Rattle.guest_model.specs.Finding.{declared_in, declared_up, given_index}

-- a class that does not declare it
pub goes_up : (program : Program) (m n : ℕ) (name desc class : List ℕ) (index : ℕ) (of : LinkedClass) → m ≡ suc n → Some index ≡ given_index program class
    → Some of ≡ slice_get program.classes index → None ≡ option_and_then (declared_in name desc) (slice_get program.classes index)
    → declared_up n program name desc of.parent ≡ declared_up m program name desc class
goes_up program m n name desc class index of same ei eo none =
    let above = declared_up n program name desc of.parent in
    let own : None ≡ declared_in name desc of = none ∙ ap (option_and_then (declared_in name desc)) (sym eo) in
    ap (λ (o : Option ℕ). option_or (option_map (λ method. (index, method)) o) above) own
    ∙ ap (λ (o : Option LinkedClass). option_and_then (λ (c : LinkedClass). option_or (option_map (λ method. (index, method)) (declared_in name desc c)) (declared_up n program name desc c.parent)) o) eo
    ∙ ap (λ (o : Option ℕ). option_and_then (λ (k : ℕ). option_and_then (λ (c : LinkedClass). option_or (option_map (λ method. (k, method)) (declared_in name desc c)) (declared_up n program name desc c.parent)) (slice_get program.classes k)) o) ei
    ∙ ap (λ k. declared_up k program name desc class) (sym same)
