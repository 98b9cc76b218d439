-- Ways: when the derived `==` says that two are the same.
use Rattle.std.proofs.Common.{◌≡◌, true, refl, ap}
use Rattle.std.proofs.lemmas.Bool.{eqb-true, eq-eqb, false≢true}
use Rattle.lk_facts.specs.contracts.way.WayPartialEq.TheImpl as way_test
use Rattle.lk_facts.specs.declared.way.Way.{Way}
use Rattle.lk_facts.specs.declared.way.Way.TheVariants.{Through, AsValue}

pub same_way : (a b : Way) → way_test.eq-value.it a b ≡ true → a ≡ b
same_way (Through i) (Through j) same = ap Through (eqb-true i j same)
same_way (AsValue i) (AsValue j) same = ap AsValue (eqb-true i j same)
same_way (Through i) (AsValue j) same = absurd (false≢true same)
same_way (AsValue i) (Through j) same = absurd (false≢true same)

pub way_itself : (a : Way) → way_test.eq-value.it a a ≡ true
way_itself (Through i) = eq-eqb i i refl
way_itself (AsValue i) = eq-eqb i i refl
