-- How `Seq` holds its elements: as the list that a contract sees. So a type may hold `Seq` of itself.
use mathlib.Core.Path.{◌≡◌, refl, sym}
use mathlib.Core.List.{List, []}
use mathlib.Core.Former.{Former, this, list, via, children}
use base.Stored.{code_map}
use denote.RattleType.{RattleType}
use denote.HoleLaws.{Alike}
use denote.HolePlaces.{Recodes, struct_places, laid}
use denote.Hole.Carrier.{listed, list-listed}
use denote.Hole.Fix.{over}
use denote.Param.Weighed.{Weighed, w_list}
use denote.Model.Placed.{view_places}
use Rattle.std.specs.formers.vec.Vec as vec
use Rattle.std.specs.declared.alloc.Global.{Global}
use Rattle.std.specs.contracts.alloc.Global as heap
use Rattle.std.specs.contracts.impls.GlobalAllocator.TheImpl.{ghosts}
use Rattle.lk_base.specs.declared.seq.Seq.TheInside.{Inside}
use Rattle.lk_base.specs.declared.seq.Seq.TheView.{view, invariant}
use Rattle.lk_base.specs.contracts.seq.Seq as whole
use Rattle.lk_base.specs.contracts.seq.Seq.TheInside as fields

-- the elements and nothing else
abbrev pub the_former : Former {0} → Former {0}
the_former inner = list inner

abbrev pub the_weighed : {inner : Former {0}} → Weighed inner → Weighed (the_former inner)
the_weighed weighed = w_list weighed

pub the_empty : List ⊥
the_empty = []

abbrev pub the_elements : (X : Type 0) → List X → List X
the_elements X elements = elements

pub the_elements_listed : (X : Type 0) (elements : List X) →
    listed _ (children (the_former this) X elements) ≡ the_elements X elements
the_elements_listed X elements = list-listed X elements

-- the one field, a `Vec`
abbrev one_field : Former {0}
one_field =
    via (vec.the_former this Global) Inside (λ X s. s.inner) (λ X v. record { inner = v })
    (λ X s. refl) (λ X v. refl)

module _ (R S : RattleType) (h : R.Denot → S.Denot) where
  pub the_places : Alike R S h →
      Alike (whole.the_row R) (whole.the_row S) ((the_former this).map R.Denot S.Denot h)
  the_places alike =
      let in_the_vec = vec.the_places heap.the_row ghosts R S h alike in
      view_places one_field (list this) view (λ X Y k u. refl) (λ X u. refl) R.Denot S.Denot h
      (whole.the_row R).coded (whole.the_row S).coded
      (invariant R.Denot) (invariant S.Denot) (λ u p q. refl) (λ u p q. refl) (λ u e. tt) (λ u e. tt)
      (over (fields.the_row R)) (over (fields.the_row S))
      (struct_places (fields.the_type R) (fields.the_type S) (vec.mapped h, tt) _ (λ d. refl) refl (laid _ _ _ in_the_vec, tt))

  pub the_codes_placed : Recodes R S h →
      Recodes (whole.the_row R) (whole.the_row S) ((the_former this).map R.Denot S.Denot h)
  the_codes_placed recodes elements =
      sym (code_map R.coded.code S.coded.code h (λ x. sym (recodes x)) elements)
