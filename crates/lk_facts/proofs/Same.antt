-- Places and the names of labels: when the derived `==` says that two are the same.
use Rattle.std.proofs.Common.{◌≡◌, true, eqb, refl, ap, ◌∙◌}
use Rattle.std.proofs.lemmas.Bool.{and_from, and_parts, eqb-true, eq-eqb, false≢true}
use Rattle.lk_facts.specs.contracts.label_entry.LabelNamePartialEq.TheImpl as name_test
use Rattle.lk_facts.specs.contracts.place.PlacePartialEq.TheImpl as place_test
use Rattle.lk_facts.specs.contracts.root.HolderPartialEq.TheImpl as holder_test
use Rattle.lk_facts.specs.declared.label_entry.LabelName.{LabelName}
use Rattle.lk_facts.specs.declared.place.Place.{Place}
use Rattle.lk_facts.specs.declared.root.Holder.{Holder}
use Rattle.lk_facts.specs.declared.root.Holder.TheVariants.{Root, Slot, Result, Point}
use Rattle.lk_types.specs.contracts.node.BasePartialEq.TheImpl as base_test
use Rattle.lk_types.specs.contracts.node.NodeIdPartialEq.TheImpl as node_test
use Rattle.lk_types.specs.declared.node.Base.{Base}
use Rattle.lk_types.specs.declared.node.Base.TheVariants.{Start, Tag}
use Rattle.lk_types.specs.declared.node.NodeId.{NodeId}

same_base : (a b : Base) → base_test.eq-value.it a b ≡ true → a ≡ b
same_base (Start t) (Start u) same = ap Start (eqb-true t u same)
same_base (Tag t) (Tag u) same = ap Tag (eqb-true t u same)
same_base (Start t) (Tag u) same = absurd (false≢true same)
same_base (Tag t) (Start u) same = absurd (false≢true same)

base_itself : (a : Base) → base_test.eq-value.it a a ≡ true
base_itself (Start t) = eq-eqb t t refl
base_itself (Tag t) = eq-eqb t t refl

pub same_node : (a b : NodeId) → node_test.eq-value.it a b ≡ true → a ≡ b
same_node a b same =
    let both = and_parts (base_test.eq-value.it a.base b.base) (eqb a.number b.number) same in
    let base = same_base a.base b.base both.0 in
    let number = eqb-true a.number b.number both.1 in
    (λ i. record { base = base i; number = number i })

pub node_itself : (a : NodeId) → node_test.eq-value.it a a ≡ true
node_itself a = and_from _ _ (base_itself a.base) (eq-eqb a.number a.number refl)

pub same_place : (a b : Place) → place_test.eq-value.it a b ≡ true → a ≡ b
same_place a b same =
    let both = and_parts (eqb a.root b.root) (node_test.eq-value.it a.node b.node) same in
    let root = eqb-true a.root b.root both.0 in
    let node = same_node a.node b.node both.1 in
    (λ i. record { root = root i; node = node i })

pub place_itself : (a : Place) → place_test.eq-value.it a a ≡ true
place_itself a = and_from _ _ (eq-eqb a.root a.root refl) (node_itself a.node)

pub same_holder : (a b : Holder) → holder_test.eq-value.it a b ≡ true → a ≡ b
same_holder (Root r) (Root s) same = ap Root (eqb-true r s same)
same_holder (Slot f k) (Slot g l) same =
    let both = and_parts (eqb f g) (eqb k l) same in
    ap (λ h. Slot h k) (eqb-true f g both.0) ∙ ap (Slot g) (eqb-true k l both.1)
same_holder (Result f) (Result g) same = ap Result (eqb-true f g same)
same_holder (Point p) (Point q) same = ap Point (eqb-true p q same)
same_holder (Root r) (Slot g l) same = absurd (false≢true same)
same_holder (Root r) (Result g) same = absurd (false≢true same)
same_holder (Root r) (Point q) same = absurd (false≢true same)
same_holder (Slot f k) (Root s) same = absurd (false≢true same)
same_holder (Slot f k) (Result g) same = absurd (false≢true same)
same_holder (Slot f k) (Point q) same = absurd (false≢true same)
same_holder (Result f) (Root s) same = absurd (false≢true same)
same_holder (Result f) (Slot g l) same = absurd (false≢true same)
same_holder (Result f) (Point q) same = absurd (false≢true same)
same_holder (Point p) (Root s) same = absurd (false≢true same)
same_holder (Point p) (Slot g l) same = absurd (false≢true same)
same_holder (Point p) (Result g) same = absurd (false≢true same)

pub holder_itself : (a : Holder) → holder_test.eq-value.it a a ≡ true
holder_itself (Root r) = eq-eqb r r refl
holder_itself (Slot f k) = and_from _ _ (eq-eqb f f refl) (eq-eqb k k refl)
holder_itself (Result f) = eq-eqb f f refl
holder_itself (Point p) = eq-eqb p p refl

pub same_name : (a b : LabelName) → name_test.eq-value.it a b ≡ true → a ≡ b
same_name a b same =
    let both = and_parts (holder_test.eq-value.it a.holder b.holder) (node_test.eq-value.it a.node b.node) same in
    let holder = same_holder a.holder b.holder both.0 in
    let node = same_node a.node b.node both.1 in
    (λ i. record { holder = holder i; node = node i })

pub name_itself : (a : LabelName) → name_test.eq-value.it a a ≡ true
name_itself a = and_from _ _ (holder_itself a.holder) (node_itself a.node)
