-- What is known of a source stays so while its typed tree is made.
use Rattle.std.proofs.Common.{◌≡◌, ◌∙◌, ◌++◌, List, [], ◌∷◌, All, Some, Option, inl, inr, map, refl, sym, ap, subst}
use Rattle.std.proofs.lemmas.List.Elements.{All-head, All-tail}
use Rattle.lk_tree.specs.declared.statement.Unit.{Unit}
use Rattle.lk_types.specs.Building.{IsTable, IsLonger}
use Rattle.lk_types.specs.Table.{Table, IsKnown}
use Rattle.lk_types.proofs.GrowLemmas.{longer_same, longer_then}
use Rattle.lk_typed.proofs.Meanings.{meaning_stays}
use Rattle.lk_typed.specs.Env as env
use Rattle.lk_typed.specs.Env.{Env, Name}
use Rattle.lk_typed.specs.Entities.{NameDeclared}
use Rattle.lk_typed.specs.Names.{meaning_in, IsKnownMeaning}
use Rattle.lk_typed.specs.NodeParts.{parts}
use Rattle.lk_typed.specs.NodeRules.{breaches, hiding, mark_of}
use Rattle.lk_typed.specs.Nodes.{Node, Placed, at}
use Rattle.lk_typed.specs.Stands as stands
use Rattle.lk_typed.specs.Stands.{IsIn}
use Rattle.lk_typed.specs.Typings.{members_in, field_in, HasKnownFields}
use Rattle.lk_typed.specs.Units.{IsNode, at_end}
use Rattle.lk_typed.specs.declared.members.Field.{Field}
use Rattle.lk_typed.specs.declared.members.Members.{Members}
use Rattle.lk_typed.specs.declared.members.Members.TheVariants as members
use Rattle.lk_typed.specs.declared.names.Meaning.{Meaning}
use Rattle.lk_typed.specs.declared.names.Meaning.TheVariants as means
use Rattle.lk_found.specs.Findings.{IsDeclaredAs, IsOfKind}
use Rattle.lk_found.specs.declared.records.DeclaredHere.{DeclaredHere}
use Rattle.lk_found.specs.declared.records.InitialiserKind.{InitialiserKind}
use Rattle.lk_found.specs.declared.records.InitialiserKind.TheVariants.{Word, Value}
use Rattle.lk_elaborator.proofs.Growing.{known_stays, told_stays}
use Rattle.lk_elaborator.specs.Leading.{GoesOn}
use Rattle.lk_elaborator.specs.declared.elaborator.Elaborator.{Elaborator}
use Rattle.lk_elab_init.specs.Source.{IsToldSource}
use Rattle.lk_elaborate.specs.Making.{StandIn}
use Rattle.lk_typed.specs.Ty.{Ty}

map_same : {A B : Type 0} (P : A → Type 0) (f g : A → B) → ((a : A) → P a → f a ≡ g a) → (xs : List A) → All P xs → map f xs ≡ map g xs
map_same P f g same [] all = refl
map_same {B = B} P f g same (x ∷ xs) all = cons_same (same x (All-head P x xs all)) (map_same P f g same xs (All-tail P x xs all))
  where
    cons_same : {a b : B} {us vs : List B} → a ≡ b → us ≡ vs → ◌≡◌ {A = List B} (a ∷ us) (b ∷ vs)
    cons_same e f = cc

-- ---- tables

module _ (old new : Table) (good : IsTable old) (longer : IsLonger old new) where
  field_same : (field : Field) → IsKnown old field.ty → field_in new field ≡ field_in old field
  field_same field known = ap (λ t. record { name = field.name; type = t }) (meaning_stays old new good longer field.ty known)

  members_same : (ms : Members) → HasKnownFields old ms → members_in new ms ≡ members_in old ms
  members_same members.NotYet known = refl
  members_same members.Begun known = refl
  members_same (members.Known fields) known = ap env.Known (map_same (λ field. IsKnown old field.ty) (field_in new) (field_in old) field_same fields known)
  members_same members.Faulty known = refl

  fields_stay : (ms : Members) → HasKnownFields old ms → HasKnownFields new ms
  fields_stay members.NotYet known = known
  fields_stay members.Begun known = known
  fields_stay (members.Known fields) known = λ k d h. known_stays old new longer _ (known k d h)
  fields_stay members.Faulty known = known

  pub kind_stays : (kind : InitialiserKind) (word : Option Ty) → IsOfKind old kind word → IsOfKind new kind word
  kind_stays (Word t) word is = (known_stays old new longer t is.0, is.1 ∙ ap Some (sym (meaning_stays old new good longer t is.0)))
  kind_stays Value word is = is

  meaning_in_stays : (m : Meaning) → IsKnownMeaning old m → meaning_in new m ≡ meaning_in old m
  meaning_in_stays (means.Object t duration) is = rw (meaning_stays old new good longer t is) refl
  meaning_in_stays (means.Function t) is = rw (meaning_stays old new good longer t is) refl
  meaning_in_stays (means.Typedef t) is = rw (meaning_stays old new good longer t is) refl
  meaning_in_stays (means.Enumerator z) is = refl
  meaning_in_stays (means.InitialiserWord t) is = rw (meaning_stays old new good longer t is) refl
  meaning_in_stays means.Faulty is = refl

  known_meaning_stays : (m : Meaning) → IsKnownMeaning old m → IsKnownMeaning new m
  known_meaning_stays (means.Object t duration) is = known_stays old new longer t is
  known_meaning_stays (means.Function t) is = known_stays old new longer t is
  known_meaning_stays (means.Typedef t) is = known_stays old new longer t is
  known_meaning_stays (means.Enumerator z) is = is
  known_meaning_stays (means.InitialiserWord t) is = known_stays old new longer t is
  known_meaning_stays means.Faulty is = is

  pub declared_stays : (d : DeclaredHere) (n : NameDeclared) → IsDeclaredAs old d n → IsDeclaredAs new d n
  declared_stays d n is = record {
    meaning_is = meaning_in_stays d.meaning is.known_meaning ∙ is.meaning_is;
    known_meaning = known_meaning_stays d.meaning is.known_meaning;
    linkage = is.linkage;
    defines = is.defines;
    known = known_stays old new longer d.ty is.known;
    type = meaning_stays old new good longer d.ty is.known ∙ is.type;
  }

-- ---- the source

module _ (old new : Elaborator) (on : GoesOn old new) where
  pub source_stays : (externs : List Name) (unit : Unit) → IsToldSource externs unit old → IsToldSource externs unit new
  source_stays externs unit is =
      let good = is.ready.table_is in
      record {
        ready = on.ready is.ready;
        told = λ e node stands. told_stays old new on (at_end externs unit) e node (is.told e node stands);
        initialisers = λ e object init x kind stands form there.
            kind_stays old.types new.types good on.longer kind _ (is.initialisers e object init x kind stands form (rw (sym on.records) there));
        declared = λ e node n d stands declares there.
            declared_stays old.types new.types good on.longer d n (is.declared e node n d stands declares (rw (sym on.records) there));
        declared_type = λ e scope node here d named h stands among name there. is.declared_type e scope node here d named h stands among name (rw (sym on.records) there);
        defined_type = λ e node named h stands name there. is.defined_type e node named h stands name (rw (sym on.records) there);
        uses = rw on.records is.uses;
        taken = rw on.records is.taken;
        structs = rw on.names (map_same (HasKnownFields old.types) (members_in new.types) (members_in old.types) (members_same old.types new.types good on.longer) old.names.structs is.fields ∙ is.structs);
        listed = record { members = on.members ∙ (rw on.names is.listed.members); some = rw on.names is.listed.some };
        fields = rw on.names (λ k d h. fields_stay old.types new.types good on.longer _ (is.fields k d h));
        tags = rw on.records is.tags;
        settled = is.settled;
      }

  pub stand_on : (placed : List Placed) → StandIn old placed → StandIn new placed
  stand_on placed is = record { externs = is.externs; unit = is.unit; told = source_stays is.externs is.unit is.told; each = is.each }

-- ---- nodes that stand in a source

module _ (externs : List Name) (unit : Unit) where
  abbrev Inside : Env → Node → Env → Node → Type 0
  Inside = stands.Stands (parts (at_end externs unit)) (breaches (at_end externs unit)) (hiding (at_end externs unit)) mark_of

  inside_part : {a e : Env} {x y : Node} (part : Placed) → Inside a x e y → IsIn part (parts (at_end externs unit) e y) → Inside a x part.env part.node
  inside_part part stands.Stands.here there = stands.Stands.inside part there stands.Stands.here
  inside_part part (stands.Stands.inside outer among is) there = stands.Stands.inside outer among (inside_part part is there)

  -- what is a part of a node of a source is a node of it
  pub node_part : (e : Env) (node : Node) (part : Placed) → IsNode externs unit e node → IsIn part (parts (at_end externs unit) e node) → IsNode externs unit part.env part.node
  node_part e node part (IsNode.node_of external among is) there = IsNode.node_of external among (inside_part part is there)

-- ---- nodes that stand so together

-- the parts of a statement stand where it does
pub parts_stand : (walk : Elaborator) (e : Env) (node : Node) (placed : List Placed) → ((last : Env) → parts last e node ≡ placed) → StandIn walk (at e node ∷ []) → StandIn walk placed
parts_stand walk e node placed are is = record {
  externs = is.externs;
  unit = is.unit;
  told = is.told;
  each = λ part there.
      node_part is.externs is.unit e node part (is.each (at e node) (inl refl)) (subst (IsIn part) (sym (are (at_end is.externs is.unit))) there);
}

pub head_stands : (walk : Elaborator) (p : Placed) (ps : List Placed) → StandIn walk (p ∷ ps) → StandIn walk (p ∷ [])
head_stands walk p ps is = record { externs = is.externs; unit = is.unit; told = is.told; each = λ part there. is.each part (only part there) }
  where
    only : (part : Placed) → IsIn part (p ∷ []) → IsIn part (p ∷ ps)
    only part (inl e) = inl e
    only part (inr none) = absurd none

pub tail_stands : (walk : Elaborator) (p : Placed) (ps : List Placed) → StandIn walk (p ∷ ps) → StandIn walk ps
tail_stands walk p ps is = record { externs = is.externs; unit = is.unit; told = is.told; each = λ part there. is.each part (inr there) }

pub in_first : (part : Placed) (xs ys : List Placed) → IsIn part xs → IsIn part (xs ++ ys)
in_first part [] ys there = absurd there
in_first part (x ∷ xs) ys (inl e) = inl e
in_first part (x ∷ xs) ys (inr there) = inr (in_first part xs ys there)

pub in_rest : (part : Placed) (xs ys : List Placed) → IsIn part ys → IsIn part (xs ++ ys)
in_rest part [] ys there = there
in_rest part (x ∷ xs) ys there = inr (in_rest part xs ys there)

pub first_stand : (walk : Elaborator) (xs ys : List Placed) → StandIn walk (xs ++ ys) → StandIn walk xs
first_stand walk xs ys is = record { externs = is.externs; unit = is.unit; told = is.told; each = λ part there. is.each part (in_first part xs ys there) }

pub rest_stand : (walk : Elaborator) (xs ys : List Placed) → StandIn walk (xs ++ ys) → StandIn walk ys
rest_stand walk xs ys is = record { externs = is.externs; unit = is.unit; told = is.told; each = λ part there. is.each part (in_rest part xs ys there) }

-- ---- the state

pub goes_same : (a : Elaborator) → GoesOn a a
goes_same a = record {
  longer = longer_same a.types;
  members = refl;
  ready = λ ready. ready;
  entities = λ n e is. is;
  locals = λ n l is. is;
  records = refl;
  names = refl;
  outside = refl;
}

pub goes_then : (a b c : Elaborator) → GoesOn a b → GoesOn b c → GoesOn a c
goes_then a b c first second = record {
  longer = longer_then a.types b.types c.types first.longer second.longer;
  members = second.members ∙ first.members;
  ready = λ ready. second.ready (first.ready ready);
  entities = λ n e is. second.entities n e (first.entities n e is);
  locals = λ n l is. second.locals n l (first.locals n l is);
  records = second.records ∙ first.records;
  names = second.names ∙ first.names;
  outside = second.outside ∙ first.outside;
}

-- an object of static storage is put beside all that
pub put_object : (a b c : Elaborator) → c ≡ record b { objects = c.objects } → GoesOn a b → GoesOn a c
put_object a b c same on = subst (GoesOn a) (sym same) beside
  where
    beside : GoesOn a (record b { objects = c.objects })
    beside = record {
      longer = on.longer;
      members = on.members;
      ready = on.ready;
      entities = on.entities;
      locals = on.locals;
      records = on.records;
      names = on.names;
      outside = on.outside;
    }
