-- What is known in a state is known while types are added.
use Rattle.std.proofs.Common.{◌≡◌, ◌∙◌, ◌<◌, ◌++◌, ℕ, List, Option, Some, None, length, refl, sym, ap, subst, arith, append_assoc, length-append}
use Rattle.lk_types.specs.Building.{IsTable, IsLonger}
use Rattle.lk_types.specs.Table.{Table, IsKnown}
use Rattle.lk_types.proofs.GrowLemmas.{longer_same, longer_then}
use Rattle.lk_tree.specs.declared.expression.TypeName.{TypeName}
use Rattle.lk_typed.proofs.Meanings.{meaning_stays}
use Rattle.lk_typed.specs.Elaborated.{InPlace}
use Rattle.lk_typed.specs.Env as env
use Rattle.lk_typed.specs.Env.{Env}
use Rattle.lk_typed.specs.Meaning.{meaning_of, IsKnownType, IsReady}
use Rattle.lk_typed.specs.Names.{meaning_in, IsKnownMeaning}
use Rattle.lk_typed.specs.Nodes.{Node}
use Rattle.lk_typed.specs.Tables.{Tables}
use Rattle.lk_typed.specs.Ty.{Pointer}
use Rattle.lk_typed.specs.Typing.{Typing, Judged}
use Rattle.lk_typed.specs.Typings.{IsTyping}
use Rattle.lk_typed.specs.declared.names.Meaning.{Meaning}
use Rattle.lk_typed.specs.declared.names.Meaning.TheVariants as means
use Rattle.lk_typed.specs.declared.role.Role.{Role}
use Rattle.lk_typed.specs.declared.role.Role.TheVariants as role
use Rattle.lk_typed.specs.declared.typed.ExprType.{ExprType}
use Rattle.lk_typed.specs.declared.typed.ExprType.TheVariants.{Listed, PointerTo}
use Rattle.lk_typed.specs.declared.typed.Typed.{Typed}
use Rattle.lk_found.specs.Findings.{IsFound, IsFoundTyping}
use Rattle.lk_found.specs.declared.found.Found.{Found}
use Rattle.lk_found.specs.declared.records.Meant.{Meant}
use Rattle.lk_elaborator.specs.Leading.{Grows, GoesOn, Leads, entity_by, local_by}
use Rattle.lk_elaborator.specs.Standing.{PartStandsAs, StandsAs}
use Rattle.lk_elaborator.specs.Telling.{IsMeant, IsTold, IsTrueOf, IsTrueOfName}
use Rattle.lk_elaborator.specs.declared.elaborator.Elaborator.{Elaborator}
use Rattle.lk_elaborator.specs.declared.parts.Part.{Part}
use Rattle.lk_elaborator.specs.declared.parts.Part.TheVariants as part

-- ---- tables

module _ (old new : Table) (longer : IsLonger old new) where
  more : {A : Type 0} (t : ℕ) (xs ys : List A) → t < length xs → t < length (xs ++ ys)
  more t xs ys is = grind (arith, length-append)

  pub known_stays : (t : ℕ) → IsKnown old t → IsKnown new t
  known_stays t is = subst (λ types. t < length types) (sym longer.types.1) (more t old.types longer.types.0 is)

  pub known_type_stays : (t : ExprType) → IsKnownType old t → IsKnownType new t
  known_type_stays (Listed t) is = known_stays t is
  known_type_stays (PointerTo t) is = known_stays t is

module _ (old new : Table) (good : IsTable old) (longer : IsLonger old new) where
  pub type_stays : (t : ExprType) → IsKnownType old t → meaning_of new t ≡ meaning_of old t
  type_stays (Listed t) is = meaning_stays old new good longer t is
  type_stays (PointerTo t) is = ap Pointer (meaning_stays old new good longer t is)

  pub typing_stays : (t : Typed) (x : Typing) → IsTyping old t x → IsTyping new t x
  typing_stays t x is = record {
    operand = record { known = known_type_stays old new longer t.ty is.operand.known; listed = is.operand.listed };
    type = type_stays t.ty is.operand.known ∙ is.type;
    place = is.place;
    constant = is.constant;
    null = is.null;
  }

  found_typing_stays : (f : Found) (x : Option Typing) → IsFoundTyping old f x → IsFoundTyping new f x
  found_typing_stays f None is = is
  found_typing_stays f (Some x) is = (is.0, is.1, typing_stays is.0 x is.2, is.3)

  pub found_stays : (e : Env) (f : Found) (x : Judged) → IsFound old e f x → IsFound new e f x
  found_stays e f x is = record { typing = found_typing_stays f x.typing is.typing; look = is.look }

  meaning_in_stays : (m : Meaning) → IsKnownMeaning old m → meaning_in new m ≡ meaning_in old m
  meaning_in_stays (means.Object t duration) is = rw (meaning_stays old new good longer t is) refl
  meaning_in_stays (means.Function t) is = rw (meaning_stays old new good longer t is) refl
  meaning_in_stays (means.Typedef t) is = rw (meaning_stays old new good longer t is) refl
  meaning_in_stays (means.Enumerator z) is = refl
  meaning_in_stays (means.InitialiserWord t) is = rw (meaning_stays old new good longer t is) refl
  meaning_in_stays means.Faulty is = refl

  known_meaning_stays : (m : Meaning) → IsKnownMeaning old m → IsKnownMeaning new m
  known_meaning_stays (means.Object t duration) is = known_stays old new longer t is
  known_meaning_stays (means.Function t) is = known_stays old new longer t is
  known_meaning_stays (means.Typedef t) is = known_stays old new longer t is
  known_meaning_stays (means.Enumerator z) is = is
  known_meaning_stays (means.InitialiserWord t) is = known_stays old new longer t is
  known_meaning_stays means.Faulty is = is

  pub meant_stays : (p : InPlace) (m : Meant) → IsMeant old p m → IsMeant new p m
  meant_stays p m is = record {
    declared = is.declared;
    stands = is.stands;
    ordinal = is.ordinal;
    meaning = is.meaning ∙ sym (meaning_in_stays m.meaning is.known);
    known = known_meaning_stays m.meaning is.known;
  }

  pub stands_stay : (r : Role) (e : env.Role) → StandsAs old r e → StandsAs new r e
  stands_stay role.Operand e is = is
  stands_stay (role.ConvertedTo t) e is = (known_type_stays old new longer t is.0, is.1 ∙ ap env.ConvertedTo (sym (type_stays t is.0)))
  stands_stay role.Function e is = is
  stands_stay role.Routine e is = is

  pub part_stands_stay : (a : Part) (e : env.Role) → PartStandsAs old a e → PartStandsAs new a e
  part_stands_stay (part.Operand r making) e is = stands_stay r e is
  part_stands_stay (part.Null ty) e is = is
  part_stands_stay (part.Number z ty) e is = is

-- ---- the state

pub grows_same : (a : Elaborator) → Grows a a
grows_same a = record { longer = longer_same a.types; members = refl; ready = λ ready. ready; same = refl }

pub grows_then : (a b c : Elaborator) → Grows a b → Grows b c → Grows a c
grows_then a b c first second = record {
  longer = longer_then a.types b.types c.types first.longer second.longer;
  members = second.members ∙ first.members;
  ready = λ ready. second.ready (first.ready ready);
  same = second.same ∙ ap (λ (walk : Elaborator). record walk { types = c.types }) first.same;
}

pub grows_on : (a b : Elaborator) → Grows a b → GoesOn a b
grows_on a b grows = record {
  longer = grows.longer;
  members = grows.members;
  ready = grows.ready;
  entities = λ n e is. ap (λ (walk : Elaborator). entity_by walk n) grows.same ∙ is;
  locals = λ n l is. ap (λ (walk : Elaborator). local_by walk n) grows.same ∙ is;
  records = ap (λ (walk : Elaborator). walk.records) grows.same;
  names = ap (λ (walk : Elaborator). walk.names) grows.same;
  outside = ap (λ (walk : Elaborator). walk.outside) grows.same;
}

-- ---- what is true of the nodes

module _ (old new : Elaborator) (on : GoesOn old new) where
  pub true_stays : (p : InPlace) → IsTrueOf old p → IsTrueOf new p
  true_stays p is = record {
    ready = on.ready is.ready;
    found = λ f there. found_stays old.types new.types is.ready.table_is on.longer p.0 f _ (is.found f (rw (sym on.records) there));
    meant = λ m there. meant_stays old.types new.types is.ready.table_is on.longer p m (is.meant m (rw (sym on.records) there));
    structs = λ s fields known. rw on.names (is.structs s fields known);
    defined = λ name. rw on.outside (is.defined name);
    externs = λ name. rw on.outside (is.externs name);
  }

  pub true_name_stays : (n : Env × TypeName) → IsReady old.types → IsTrueOfName old n → IsTrueOfName new n
  true_name_stays n ready is = λ t there.
      let was = is t (rw (sym on.records) there) in
      (known_stays old.types new.types on.longer t was.0, was.1 ∙ ap Some (sym (meaning_stays old.types new.types ready.table_is on.longer t was.0)))

  pub told_stays : (at_end e : Env) (node : Node) → IsTold at_end old e node → IsTold at_end new e node
  told_stays at_end e node told = record {
    ready = on.ready told.ready;
    expressions = λ e' x stands. true_stays (e', x) (told.expressions e' x stands);
    names = λ e' n stands. true_name_stays (e', n) told.ready (told.names e' n stands);
  }

-- ---- the tables

pub leads_back : (old new : Elaborator) (tables : Tables) → GoesOn old new → Leads new tables → Leads old tables
leads_back old new tables on leads = record {
  types = (on.longer.types.0 ++ leads.types.0, leads.types.1 ∙ ap (λ ts. ts ++ leads.types.0) on.longer.types.1 ∙ append_assoc old.types.types on.longer.types.0 leads.types.0);
  entities = λ n e is. leads.entities n e (on.entities n e is);
  locals = λ n l is. leads.locals n l (on.locals n l is);
}

-- ---- what the functions that go on ask of it

pub true_on : (old new : Elaborator) → Grows old new → (p : InPlace) → IsTrueOf old p → IsTrueOf new p
true_on old new grows p is = true_stays old new (grows_on old new grows) p is

pub told_on : (old new : Elaborator) → Grows old new → (at_end e : Env) (node : Node) → IsTold at_end old e node → IsTold at_end new e node
told_on old new grows at_end e node told = told_stays old new (grows_on old new grows) at_end e node told

pub leads_before : (old new : Elaborator) (tables : Tables) → Grows old new → Leads new tables → Leads old tables
leads_before old new tables grows leads = leads_back old new tables (grows_on old new grows) leads

-- the type of an expression of the old table means the same
pub type_on : (old new : Elaborator) → Grows old new → IsReady old.types → (t : ExprType) → IsKnownType old.types t → meaning_of new.types t ≡ meaning_of old.types t
type_on old new grows ready t known = type_stays old.types new.types ready.table_is grows.longer t known
