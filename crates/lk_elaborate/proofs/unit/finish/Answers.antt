use Rattle.std.proofs.Common.{◌≡◌, ◌∙◌, ◌==◌, List, [], ◌∷◌, length, true, Bool, ap, arith, refl, subst, sym}
use Rattle.std.proofs.lemmas.Bool.Decides.{nat_tests}
use Rattle.lk_types.specs.Building.{IsLonger}
use Rattle.lk_types.specs.Table.{Table}
use Rattle.lk_elaborate.proofs.unit.finish.Goals as goal

none_of : {A : Type 0} (xs : List A) (b : Bool) → b ≡ true → b ≡ (length xs == 0) → xs ≡ []
none_of [] b is same = refl
none_of (x ∷ xs) b is same = absurd (grind (arith, nat_tests))

pub returns : goal.returns
returns c =
    let value = c.into_table-types.ensures.value in
    let new = c.in_ok-entities.ensures in
    record {
      longer = subst (λ (table : Table). IsLonger table c.into_list.new.types) value new.longer;
      members = new.members ∙ ap (λ (table : Table). table.members) value;
      ready = λ _. new.ready c.into_table-types.ensures.ready;
      parts = sym c.parts.ensures.value ∙ none_of c.parts.result.now c.is_empty.result c.if-not-is_empty.false c.is_empty.ensures;
      finished = λ _. new.finished c.into_table-types.ensures.ready;
    }
