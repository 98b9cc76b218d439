-- What is put, one after the other.
use Rattle.std.proofs.Common.{◌≡◌, ◌∙◌, ◌⊎◌, ◌++◌, ◌<◌, ℕ, zero, suc, List, [], ◌∷◌, Option, Some, inl, inr, refl, sym, ap, subst, append_assoc, arith, false, length, get_or}
use Rattle.std.proofs.lemmas.List.{append-nil}
use Rattle.std.proofs.lemmas.List.Elements.{Contains-append_cases, Contains-append_left, Contains-append_right}
use Rattle.std.specs.List.{Contains}
use Rattle.lk_tree.specs.declared.statement.Unit.{Unit}
use Rattle.lk_types.specs.Building.{IsLonger}
use Rattle.lk_types.specs.Table.{Table}
use Rattle.lk_types.specs.declared.c_type.CType.{CType}
use Rattle.lk_typed.proofs.Meanings.{meaning_stays}
use Rattle.lk_typed.specs.Entities.{NameDeclared, entity_kind}
use Rattle.lk_typed.specs.Env.{AnObject, Name}
use Rattle.lk_typed.specs.Meaning.{IsReady}
use Rattle.lk_typed.specs.Ty.{Ty, Means}
use Rattle.lk_typed.specs.declared.entity.Entity.{Entity}
use Rattle.lk_typed.specs.declared.entity.EntityKind.{EntityKind}
use Rattle.lk_typed.specs.declared.initialiser.StaticObject.{StaticObject}
use Rattle.lk_typed.specs.declared.unit.Local.{Local}
use Rattle.lk_elaborator.proofs.Growing.{known_stays}
use Rattle.lk_elaborator.proofs.Numbers.{means_on}
use Rattle.lk_elaborator.specs.Gathering.{IsGathered}
use Rattle.lk_elaborator.specs.Leading.{GoesOn, Grows}
use Rattle.lk_elaborator.specs.PuttingLocals.{AreNumbered}
use Rattle.lk_elaborator.specs.PuttingLocals as put
use Rattle.lk_elaborator.specs.Rising.{IsRising}
use Rattle.lk_elaborator.specs.declared.elaborator.Elaborator.{Elaborator}
use Rattle.lk_elaborator.specs.declared.entities.Entities.{Entities}
use Rattle.lk_elaborator.specs.declared.entities.NamedEntity.{NamedEntity}
use Rattle.lk_elaborator.specs.declared.locals.Locals.{Locals}
use Rattle.lk_elaborate.specs.Outside.{LeadsOutside}
use Rattle.lk_elaborate.specs.Putting.{AreRising, IsLocalHere, IsPutAs}
use Rattle.lk_elaborate.specs.PuttingDeclared.{LocalsPut, NamesPut, ObjectsPut, PutsThose}

-- ---- lists

pub contains_none : {X : Type 0} (x : X) → Contains [] x → ⊥
contains_none x there = omega (arith, there.1)

pub contains_one : {X : Type 0} (y x : X) → Contains (y ∷ []) x → y ≡ x
contains_one y x there = one there.0 there.1 there.2
  where
    one : (k : ℕ) → k < length (y ∷ []) → get_or (y ∷ []) k x ≡ x → y ≡ x
    one zero below is = is
    one (suc k) below is = absurd (omega (arith, below))

pub contains_it : {X : Type 0} (y : X) → Contains (y ∷ []) y
contains_it y = (0, omega arith, refl)

-- ---- what was put stays so

-- what a longer table has
means_longer : (old new : Table) → IsLonger old new → {t : ℕ} {a : Ty} → Means old.types t a → Means new.types t a
means_longer old new longer {t = t} {a = a} means = subst (λ (types : List CType). Means types t a) (sym longer.types.1) (means_on old.types longer.types.0 means)

pub put_stays : (old new : Table) → IsLonger old new → (body : Option ℕ) (n : NameDeclared) (named : NamedEntity) → IsPutAs old.types body n named → IsPutAs new.types body n named
put_stays old new longer body n named is = record {
  name = is.name;
  linkage = is.linkage;
  kind = is.kind;
  declaration = record { spot = is.declaration.spot; ordinal = is.declaration.ordinal; type = means_longer old new longer is.declaration.type; defines = is.declaration.defines };
  body = is.body;
}

pub local_stays : (old new : Elaborator) → IsReady old.types → GoesOn old new → (n : NameDeclared) (t : Ty) (local : Local) → IsLocalHere old n t local → IsLocalHere new n t local
local_stays old new ready on n t local is = record {
  name = is.name;
  spot = is.spot;
  ordinal = is.ordinal;
  type = means_longer old.types new.types on.longer is.type;
  so = record {
    known = known_stays old.types new.types on.longer local.ty is.so.known;
    slot = rw (meaning_stays old.types new.types ready.table_is on.longer local.ty is.so.known, on.records)
        is.so.slot;
  };
}

-- what the numbers of a later state stand for, those of an earlier one do
pub leads_outside_back : (old new : Elaborator) → GoesOn old new → (types : List CType) (entities : List Entity) → LeadsOutside new types entities → LeadsOutside old types entities
leads_outside_back old new on types entities leads = record {
  longer = (on.longer.types.0 ++ leads.longer.0, leads.longer.1 ∙ (ap (λ ts. ts ++ leads.longer.0) on.longer.types.1 ∙ append_assoc old.types.types on.longer.types.0 leads.longer.0));
  entities = λ n e is. leads.entities n e (on.entities n e is);
}

-- ---- names

module _ (N M : NameDeclared → Type 0) where
  abbrev Either : NameDeclared → Type 0
  Either n = N n ⊎ M n

  pub names_then : (old mid new : Entities) (before after : Table) → IsLonger before after → (body : Option ℕ) (xs ys : List NamedEntity) → NamesPut N old mid before.types body xs →
      NamesPut M mid new after.types body ys → NamesPut Either old new after.types body (xs ++ ys)
  names_then old mid new before after longer body xs ys first second = record {
    gathers = λ ns is. subst (λ all. IsGathered all new) (append_assoc ns xs ys) (second.gathers (ns ++ xs) (first.gathers ns is));
    rise = λ ns is. subst (λ all. IsRising all new) (append_assoc ns xs ys) (second.rise (ns ++ xs) (first.rise ns is));
    all = all;
    none_else = λ named there. back named (Contains-append_cases xs ys named there);
  }
    where
      all : (n : NameDeclared) (kind : EntityKind) → Either n → entity_kind n.is.meaning ≡ Some kind → (named : NamedEntity) × Contains (xs ++ ys) named × IsPutAs after.types body n named
      all n kind (inl there) is =
          let one = first.all n kind there is in (one.0, Contains-append_left xs ys one.0 one.1, put_stays before after longer body n one.0 one.2)
      all n kind (inr there) is = let one = second.all n kind there is in (one.0, Contains-append_right xs ys one.0 one.1, one.2)

      back : (named : NamedEntity) → Contains xs named ⊎ Contains ys named → (n : NameDeclared) × Either n × IsPutAs after.types body n named
      back named (inl there) = let one = first.none_else named there in (one.0, inl one.1, put_stays before after longer body one.0 named one.2)
      back named (inr there) = let one = second.none_else named there in (one.0, inr one.1, one.2)

  pub names_same : ((n : NameDeclared) → N n → M n) → ((n : NameDeclared) → M n → N n) → (old new : Entities) (types : List CType) (body : Option ℕ) (xs : List NamedEntity) →
      NamesPut N old new types body xs → NamesPut M old new types body xs
  names_same to from old new types body xs put = record {
    gathers = put.gathers;
    rise = put.rise;
    all = λ n kind there is. put.all n kind (from n there) is;
    none_else = λ named there. let one = put.none_else named there in (one.0, to one.0 one.1, one.2);
  }

  pub locals_then : (old mid new : Elaborator) → IsReady mid.types → GoesOn mid new → (xs ys : List Local) → LocalsPut N old mid xs → LocalsPut M mid new ys → LocalsPut Either old new (xs ++ ys)
  locals_then old mid new ready on xs ys first second = record {
    list = second.list ∙ (ap (λ ls. ls ++ ys) first.list ∙ append_assoc old.locals.list.items xs ys);
    numbered = λ is. second.numbered (first.numbered is);
    rise = λ is. second.rise (first.rise is);
    all = all;
    none_else = λ local there. back local (Contains-append_cases xs ys local there);
  }
    where
      all : (n : NameDeclared) (t : Ty) → Either n → n.is.meaning ≡ AnObject t false → (local : Local) × Contains (xs ++ ys) local × IsLocalHere new n t local
      all n t (inl there) is = let one = first.all n t there is in (one.0, Contains-append_left xs ys one.0 one.1, local_stays mid new ready on n t one.0 one.2)
      all n t (inr there) is = let one = second.all n t there is in (one.0, Contains-append_right xs ys one.0 one.1, one.2)

      back : (local : Local) → Contains xs local ⊎ Contains ys local → (n : NameDeclared) × (t : Ty) × Either n × (n.is.meaning ≡ AnObject t false) × IsLocalHere new n t local
      back local (inl there) = let one = first.none_else local there in (one.0, one.1, inl one.2, one.3, local_stays mid new ready on one.0 one.1 local one.4)
      back local (inr there) = let one = second.none_else local there in (one.0, one.1, inr one.2, one.3, one.4)

  pub locals_same : ((n : NameDeclared) → N n → M n) → ((n : NameDeclared) → M n → N n) → (old new : Elaborator) (xs : List Local) → LocalsPut N old new xs → LocalsPut M old new xs
  locals_same to from old new xs put = record {
    list = put.list;
    numbered = put.numbered;
    rise = put.rise;
    all = λ n t there is. put.all n t (from n there) is;
    none_else = λ local there. let one = put.none_else local there in (one.0, one.1, to one.0 one.2, one.3, one.4);
  }

-- none of them
pub no_names : (N : NameDeclared → Type 0) → ((n : NameDeclared) (kind : EntityKind) → N n → entity_kind n.is.meaning ≡ Some kind → ⊥) →
    (old new : Entities) (types : List CType) (body : Option ℕ) → new ≡ old → NamesPut N old new types body []
no_names N none old new types body same = record {
  gathers = λ ns is. rw (append-nil ns, same) is;
  rise = λ ns is. rw (append-nil ns, same) is;
  all = λ n kind there is. absurd (none n kind there is);
  none_else = λ named there. absurd (contains_none named there);
}

pub no_locals : (N : NameDeclared → Type 0) → ((n : NameDeclared) (t : Ty) → N n → n.is.meaning ≡ AnObject t false → ⊥) → (old new : Elaborator) → new.locals ≡ old.locals → LocalsPut N old new []
no_locals N none old new same = record {
  list = ap (λ (ls : Locals). ls.list.items) same ∙ sym (append-nil old.locals.list.items);
  numbered = λ is. subst AreNumbered (sym same) is;
  rise = λ is. subst (λ (ls : Locals). put.Rise ls.list.items) (sym same) is;
  all = λ n t there is. absurd (none n t there is);
  none_else = λ local there. absurd (contains_none local there);
}

-- ---- objects

module _ (externs : List Name) (unit : Unit) where
  pub objects_then : (F G : ℕ → Type 0) (old mid new : Elaborator) → GoesOn mid new → (xs ys : List StaticObject) → ObjectsPut externs unit F old mid xs → ObjectsPut externs unit G mid new ys →
      ObjectsPut externs unit (λ ordinal. F ordinal ⊎ G ordinal) old new (xs ++ ys)
  objects_then F G old mid new on xs ys first second = record {
    list = second.list ∙ (ap (λ ls. ls ++ ys) first.list ∙ append_assoc old.objects.items xs ys);
    rise = λ is. second.rise (first.rise is);
    all = all;
    each = λ object there types entities leads. elim (Contains-append_cases xs ys object there) [
      | inl early ↦ first.each object early types entities (leads_outside_back mid new on types entities leads)
      | inr late ↦ second.each object late types entities leads
    ];
  }
    where
      all : (ordinal : ℕ) → F ordinal ⊎ G ordinal → (object : StaticObject) × Contains (xs ++ ys) object × (object.ordinal ≡ ordinal)
      all ordinal (inl there) = let one = first.all ordinal there in (one.0, Contains-append_left xs ys one.0 one.1, one.2)
      all ordinal (inr there) = let one = second.all ordinal there in (one.0, Contains-append_right xs ys one.0 one.1, one.2)

  pub objects_same : (F G : ℕ → Type 0) → ((ordinal : ℕ) → G ordinal → F ordinal) → (old new : Elaborator) (xs : List StaticObject) → ObjectsPut externs unit F old new xs →
      ObjectsPut externs unit G old new xs
  objects_same F G from old new xs put = record { list = put.list; rise = put.rise; all = λ ordinal there. put.all ordinal (from ordinal there); each = put.each }

  pub no_objects : (G : ℕ → Type 0) → ((ordinal : ℕ) → G ordinal → ⊥) → (old new : Elaborator) → new.objects ≡ old.objects → ObjectsPut externs unit G old new []
  no_objects G none old new same = record {
    list = ap (λ os. os.items) same ∙ sym (append-nil old.objects.items);
    rise = λ is. subst (λ os. AreRising os.items) (sym same) is;
    all = λ ordinal there. absurd (none ordinal there);
    each = λ object there. absurd (contains_none object there);
  }

  -- ---- all of them

  pub puts_then : (N M : NameDeclared → Type 0) (F G : ℕ → Type 0) (old mid new : Elaborator) (body : Option ℕ) → IsReady mid.types → GoesOn mid new → PutsThose externs unit N F old mid body →
      PutsThose externs unit M G mid new body → PutsThose externs unit (λ n. N n ⊎ M n) (λ ordinal. F ordinal ⊎ G ordinal) old new body
  puts_then N M F G old mid new body ready on first second = record {
    names = first.names ++ second.names;
    names_put = names_then N M old.entities mid.entities new.entities mid.types new.types on.longer body first.names second.names first.names_put second.names_put;
    locals = first.locals ++ second.locals;
    locals_put = locals_then N M old mid new ready on first.locals second.locals first.locals_put second.locals_put;
    objects = first.objects ++ second.objects;
    objects_put = objects_then F G old mid new on first.objects second.objects first.objects_put second.objects_put;
    bodies = second.bodies ∙ first.bodies;
  }

  pub puts_same : (N M : NameDeclared → Type 0) (F G : ℕ → Type 0) → ((n : NameDeclared) → N n → M n) → ((n : NameDeclared) → M n → N n) → ((ordinal : ℕ) → G ordinal → F ordinal) →
      (old new : Elaborator) (body : Option ℕ) → PutsThose externs unit N F old new body → PutsThose externs unit M G old new body
  puts_same N M F G to from given old new body puts = record {
    names = puts.names;
    names_put = names_same N M to from old.entities new.entities new.types.types body puts.names puts.names_put;
    locals = puts.locals;
    locals_put = locals_same N M to from old new puts.locals puts.locals_put;
    objects = puts.objects;
    objects_put = objects_same F G given old new puts.objects puts.objects_put;
    bodies = puts.bodies;
  }

  -- where only types are added, nothing is put
  pub puts_nothing : (N : NameDeclared → Type 0) (G : ℕ → Type 0) → ((n : NameDeclared) → N n → ⊥) → ((ordinal : ℕ) → G ordinal → ⊥) → (old new : Elaborator) (body : Option ℕ) → Grows old new →
      PutsThose externs unit N G old new body
  puts_nothing N G no_name no_object old new body grows = record {
    names = [];
    names_put = no_names N (λ n kind there is. no_name n there) old.entities new.entities new.types.types body (ap (λ (walk : Elaborator). walk.entities) grows.same);
    locals = [];
    locals_put = no_locals N (λ n t there is. no_name n there) old new (ap (λ (walk : Elaborator). walk.locals) grows.same);
    objects = [];
    objects_put = no_objects G no_object old new (ap (λ (walk : Elaborator). walk.objects) grows.same);
    bodies = ap (λ (walk : Elaborator). walk.bodies) grows.same;
  }
