-- What an initialiser gives to the parts of an object, where it stands in a source.
use Rattle.std.proofs.Common.{◌≡◌, ◌∙◌, ◌++◌, ◌+◌, ℕ, zero, suc, map, true, false, List, [], ◌∷◌, Option, Some, None, refl, sym, ap, subst, inl, inr, Result, Ok, Err, append_assoc, drop, drop-cons, length, get_or, ◌<◌, ◌≤◌, arith}
use Rattle.std.proofs.lemmas.Bool.{false≢true}
use Rattle.std.proofs.lemmas.Bool.Decides.{nat_tests}
use Rattle.std.proofs.lemmas.List.{append-nil}
use Rattle.std.proofs.lemmas.Option.{none-some, same_Some}
use Rattle.std.specs.Bool.{◌==◌}
use Rattle.std.specs.Borrow.{Bor}
use Rattle.std.specs.Map.{lookup}
use Rattle.std.specs.Prelude.{OnOk, if◌then◌else◌, nat_eq, slice_get, unwrap_or}
use Rattle.lk_base.specs.declared.cell.CellStep.{CellStep}
use Rattle.lk_tree.specs.declared.declaration.Designator.{Designator}
use Rattle.lk_tree.specs.declared.declaration.Entry.{Entry}
use Rattle.lk_tree.specs.declared.declaration.Init.{Init, out-Init, out-roll-Init}
use Rattle.lk_tree.specs.declared.declaration.Init.TheOpen.{Init-F}
use Rattle.lk_tree.specs.declared.declaration.Init.TheVariants as init
use Rattle.lk_tree.specs.declared.declaration.InitList.{InitList, out-InitList}
use Rattle.lk_tree.specs.declared.expression.Expr.{Expr}
use Rattle.lk_tree.specs.declared.statement.Unit.{Unit}
use Rattle.lk_types.specs.Building.{types_of}
use Rattle.lk_types.specs.Table.{Table, IsKnown}
use Rattle.lk_typed.specs.Env.{Env, Name, converted_to, extend, members_of, nothing}
use Rattle.lk_typed.specs.Expressions.{AText, written}
use Rattle.lk_typed.specs.Initialised as spec
use Rattle.lk_typed.specs.Initialised.{AValue, AreGiven, AreGivenByEntries, TheBytes, TheWord, bytes_given, step_to}
use Rattle.lk_typed.specs.Initialised.AreGiven.{word as by_word, value as by_value, text as by_text, braced_text as by_braced_text, list as by_entries}
use Rattle.lk_typed.specs.Initialised.AreGivenByEntries.{no_more as no_entries, next as one_entry}
use Rattle.lk_typed.specs.InitialiserRules.{Object, entry_type, is_text_for}
use Rattle.lk_typed.specs.Initialisers.{designator_parts, designators_add, entries_in_turn, entry_object, init_adds, inner_object, parts_of_init, text_alone, unless_word}
use Rattle.lk_typed.specs.Meaning.{meaning}
use Rattle.lk_typed.specs.MemberRules.{fields_in, types_in}
use Rattle.lk_typed.specs.Nodes.{AnExpression, AnInitialiser, Placed, at}
use Rattle.lk_typed.specs.Stands.{IsIn}
use Rattle.lk_typed.specs.Ty.{Ty, Void, Int, ThreadId, Mutex, Cond, Pointer, Array, Struct, Function, Opaque, is_array}
use Rattle.lk_typed.specs.Typings.{field_in, members_in, structs_in}
use Rattle.lk_typed.specs.Units.{IsNode, at_end}
use Rattle.lk_typed.specs.declared.members.Field.{Field as FieldFound}
use Rattle.lk_typed.specs.declared.members.Members.{Members}
use Rattle.lk_typed.specs.declared.members.Members.TheVariants as members
use Rattle.lk_nodes.specs.Settled.{Holds}
use Rattle.lk_nodes.specs.Settled.Holds.{itself}
use Rattle.lk_found.specs.Structs.{listed, member_of}
use Rattle.lk_found.specs.declared.records.InitialiserKind.{InitialiserKind}
use Rattle.lk_found.specs.declared.records.InitialiserKind.TheVariants as kind
use Rattle.lk_elaborator.specs.declared.elaborator.Elaborator.{Elaborator}
use Rattle.lk_elab_init.specs.Giving.{AreGivenAs, AreNodes, GivesTo, GivesToEntries, GivesToEntry, GivesToExpr, GivesToList, GivesToText, Puts, count_in, part_given}
use Rattle.lk_elab_init.specs.Giving.AreGivenAs.{no_more, next}
use Rattle.lk_elab_init.specs.Giving.BeginsAs.{a_value, the_bytes, the_word}
use Rattle.lk_elab_init.specs.Settled.{fields_listed}
use Rattle.lk_elab_init.specs.Source.{IsToldSource}
use Rattle.lk_elab_init.specs.Words.{is_word_kind}
use Rattle.lk_elab_init.specs.declared.givens.Beginning.TheVariants as begins
use Rattle.lk_elab_init.specs.declared.givens.PartGiven.{PartGiven}
use Rattle.lk_elab_init.proofs.Standing.{part_stands, stands_as_part}

-- ---- types

array_is : (t : Ty) (n : ℕ) → Some n ≡ count_in t → (element : Ty) × (t ≡ Array element n)
array_is Void n is = absurd (none-some n (sym is))
array_is (Int k) n is = absurd (none-some n (sym is))
array_is ThreadId n is = absurd (none-some n (sym is))
array_is Mutex n is = absurd (none-some n (sym is))
array_is Cond n is = absurd (none-some n (sym is))
array_is (Pointer t) n is = absurd (none-some n (sym is))
array_is (Array t m) n is = (t, ap (Array t) (same_Some m n (sym is)))
array_is (Struct s) n is = absurd (none-some n (sym is))
array_is (Function result params dots) n is = absurd (none-some n (sym is))
array_is (Opaque m) n is = absurd (none-some n (sym is))

no_array : (t : Ty) → None ≡ count_in t → is_array t ≡ false
no_array Void is = refl
no_array (Int k) is = refl
no_array ThreadId is = refl
no_array Mutex is = refl
no_array Cond is = refl
no_array (Pointer t) is = refl
no_array (Array t m) is = absurd (none-some m is)
no_array (Struct s) is = refl
no_array (Function result params dots) is = refl
no_array (Opaque m) is = refl

pub both_ok : {T E : Type 0} (P Q : Type 0) (r : Result T E) → OnOk r P → OnOk r Q → OnOk r (P × Q)
both_ok P Q (Ok x) p q = (p, q)
both_ok P Q (Err e) p q = tt

-- ---- expressions

module _ (walk : Elaborator) (t : ℕ) (path : List CellStep) (e : Bor Expr) (known : IsKnown walk.types t) where
  pub word_put : (u : ℕ) → lookup (nat_eq e.now.ordinal) walk.records.initialisers ≡ Some (kind.Word u) → GivesToExpr walk t path e.now (part_given path t begins.Word ∷ [])
  word_put u found init form externs unit told env object node type =
      record {
        parts = record { path = path; type = object.type; begins = TheWord } ∷ [];
        given = by_word form (told.initialisers env (Some object) init e.now (kind.Word u) node form found).1;
        are = next (record { path = refl; known = known; type = sym type; begins = the_word }) no_more;
      }

  pub value_put : lookup (nat_eq e.now.ordinal) walk.records.initialisers ≡ Some kind.Value → None ≡ count_in (meaning walk.types t) →
      GivesToExpr walk t path e.now (part_given path t (begins.Value e) ∷ [])
  value_put found none init form externs unit told env object node type =
      let no_word = told.initialisers env (Some object) init e.now kind.Value node form found in
      let part = at (converted_to env object.type) (AnExpression e.now) in
      let is : IsIn part (parts_of_init (Some object) env (out-Init init)) = subst (λ f. IsIn part (parts_of_init (Some object) env f)) (sym form) (subst (λ w. IsIn part (unless_word w (part ∷ []))) (sym no_word) (inl refl)) in
      record {
        parts = record { path = path; type = object.type; begins = AValue (converted_to env object.type, e.now) } ∷ [];
        given = by_value form no_word (no_array object.type (none ∙ ap count_in (sym type)));
        are = next (record { path = refl; known = known; type = sym type; begins = a_value env (part_stands externs unit part node is) }) no_more;
      }

  pub text_put : (n : ℕ) (bytes : List ℕ) → Some n ≡ count_in (meaning walk.types t) → written e.now ≡ AText bytes →
      GivesToExpr walk t path e.now (part_given path t (begins.Bytes e.now.spot e.now.ordinal (bytes_given n bytes)) ∷ [])
  text_put n bytes count is_text init form externs unit told env object node type =
      let is = array_is object.type n (count ∙ ap count_in (sym type)) in
      record {
        parts = record { path = path; type = object.type; begins = TheBytes e.now.spot e.now.ordinal (bytes_given n bytes) } ∷ [];
        given = subst (λ u. AreGiven env u path init (record { path = path; type = u; begins = TheBytes e.now.spot e.now.ordinal (bytes_given n bytes) } ∷ [])) (sym is.1) (by_text form is_text);
        are = next (record { path = refl; known = known; type = sym type; begins = the_bytes }) no_more;
      }

  pub word_put_found : (k : InitialiserKind) → lookup (nat_eq e.now.ordinal) walk.records.initialisers ≡ Some k → true ≡ is_word_kind k → GivesToExpr walk t path e.now (part_given path t begins.Word ∷ [])
  word_put_found (kind.Word u) found is = word_put u found
  word_put_found kind.Value found is = absurd (false≢true (sym is))

-- ---- lists

pub given_then : (externs : List Name) (unit : Unit) (table : Table) (xs ys : List PartGiven) (ps qs : List spec.PartGiven) →
    AreGivenAs externs unit table xs ps → AreGivenAs externs unit table ys qs → AreGivenAs externs unit table (xs ++ ys) (ps ++ qs)
given_then externs unit table _ ys _ qs no_more more = more
given_then externs unit table _ ys _ qs (next {others = others} {rest = rest} is are) more = next is (given_then externs unit table others ys rest qs are more)

-- nothing is added where there are no designators
pub extend_nothing : (env : Env) → extend env nothing ≡ env
extend_nothing env = rw (append-nil env.declared) (rw (append-nil env.tags) refl)

undesignated : (env : Env) (ds : List Designator) → ds ≡ [] → extend env (designators_add env ds) ≡ env
undesignated env ds none = ap (λ es. extend env (designators_add env es)) none ∙ extend_nothing env

in_right : {A : Type 0} (x : A) (xs ys : List A) → IsIn x ys → IsIn x (xs ++ ys)
in_right x [] ys h = h
in_right x (y ∷ xs) ys h = inr (in_right x xs ys h)

abbrev behind_entry : Env → Entry → Env
behind_entry env e = extend (extend env (designators_add env e.designators)) (init_adds e.init (extend env (designators_add env e.designators)))

other_entries : (object : Option Object) (text : Option ℕ) (env : Env) (k : ℕ) (e : Entry) (es : List Entry) (part : Placed) →
    IsIn part (entries_in_turn object text (behind_entry env e) (suc k) es) → IsIn part (entries_in_turn object text env k (e ∷ es))
other_entries object bytes env k e es part is = in_right part (designator_parts env e.designators) _ (inr is)

-- the entries before those that are left gave these parts; the next of them has the number k
pub record EntriesPut (externs : List Name) (unit : Unit) (table : Table) (env : Env) (object : Object) (text : Option ℕ) (path : List CellStep) (k : ℕ) (all left : List Entry) (added : List PartGiven) : Type 0 where
  pub here : Env
  pub parts : List spec.PartGiven
  pub are : AreGivenAs externs unit table added parts
  pub inside : (part : Placed) → IsIn part (entries_in_turn (Some object) text here k left) → IsIn part (entries_in_turn (Some object) text env 0 all)
  pub on : (others : List spec.PartGiven) → AreGivenByEntries here object.type path k left others → AreGivenByEntries env object.type path 0 all (parts ++ others)

abbrev pub ArePut : Elaborator → ℕ → List CellStep → ℕ → List Entry → List Entry → List PartGiven → Type 0
ArePut walk t path k all left added =
    (externs : List Name) (unit : Unit) → IsToldSource externs unit walk → (env : Env) (object : Object) (text : Option ℕ) → is_text_for object.type text ≡ false →
    AreNodes externs unit walk.types object.type (entries_in_turn (Some object) text env 0 all) → object.type ≡ meaning walk.types t →
    EntriesPut externs unit walk.types env object text path k all left added

module _ (walk : Elaborator) (t : ℕ) (path : List CellStep) (all : List Entry) where
  pub none_put : (old new : List PartGiven) → new ≡ old → Puts old new (ArePut walk t path 0 all all)
  none_put old new same = (
    [],
    same ∙ sym (append-nil old),
    λ externs unit told env object text no_text nodes type. record { here = env; parts = []; are = no_more; inside = λ part is. is; on = λ others are. are },
  )

  pub one_put : (old mid new : List PartGiven) (k j : ℕ) (left rest : List Entry) (e : Entry) → j ≡ suc k → left ≡ e ∷ rest → Puts old mid (ArePut walk t path k all left) →
      Puts mid new (GivesToEntry walk t path k e) → Puts old new (ArePut walk t path j all rest)
  one_put old mid new k j left rest e next_is left_is before entry = (
    before.0 ++ entry.0,
    entry.1 ∙ ap (λ xs. xs ++ entry.0) before.1 ∙ append_assoc old before.0 entry.0,
    λ externs unit told env object text no_text nodes type.
        let was = before.2 externs unit told env object text no_text nodes type in
        let here = was.here in
        let behind = extend here (designators_add here e.designators) in
        let part = at behind (AnInitialiser (entry_object behind (Some object) text k) e.init) in
        let is = was.inside part (subst (λ es. IsIn part (entries_in_turn (Some object) text here k es)) (sym left_is) (in_right part (designator_parts here e.designators) _ (inl refl))) in
        let node = nodes part is in
        let got = entry.2 externs unit told behind object text no_text node.0 node.1 type in
        let same = undesignated here e.designators got.none in
        record {
          here = behind_entry here e;
          parts = was.parts ++ got.parts.parts;
          are = given_then externs unit walk.types before.0 entry.0 was.parts got.parts.parts was.are got.parts.are;
          inside = λ other in_others. was.inside other (subst (λ es. IsIn other (entries_in_turn (Some object) text here k es)) (sym left_is)
              (other_entries (Some object) text here k e rest other (subst (λ n. IsIn other (entries_in_turn (Some object) text (behind_entry here e) n rest)) next_is in_others)));
          on = λ others are. subst (AreGivenByEntries env object.type path 0 all) (sym (append_assoc was.parts got.parts.parts others))
              (was.on (got.parts.parts ++ others) (subst (λ es. AreGivenByEntries here object.type path k es (got.parts.parts ++ others)) (sym left_is)
              (one_entry got.step_is (subst (λ there. entry_type (fields_in there) object.type k ≡ Some got.inner) same got.inner_is) got.parts.given
              (subst (λ n. AreGivenByEntries (behind_entry here e) object.type path n rest others) next_is are))));
        },
  )

  pub all_put : (old new : List PartGiven) (k : ℕ) (left : List Entry) → left ≡ [] → Puts old new (ArePut walk t path k all left) → Puts old new (GivesToEntries walk t path all)
  all_put old new k left none before = (
    before.0,
    before.1,
    λ externs unit told env object text no_text nodes type.
        let was = before.2 externs unit told env object text no_text nodes type in
        record {
          parts = was.parts;
          given = subst (AreGivenByEntries env object.type path 0 all) (append-nil was.parts)
              (was.on [] (subst (λ es. AreGivenByEntries was.here object.type path k es []) (sym none) no_entries));
          are = was.are;
        },
  )

-- ---- structs

fields_same : (table : Table) (fields : List FieldFound) → map (λ field. field.type) (map (field_in table) fields) ≡ map (meaning table) (types_of (map member_of fields))
fields_same table [] = refl
fields_same table (f ∷ fs) = ap (λ ts. meaning table f.ty ∷ ts) (fields_same table fs)

members_same : (table : Table) (m : Members) → types_in (members_in table m) ≡ map (meaning table) (types_of (listed m))
members_same table members.NotYet = refl
members_same table members.Begun = refl
members_same table (members.Known fields) = fields_same table fields
members_same table members.Faulty = refl

struct_same : (table : Table) (structs : List Members) (s : ℕ) → types_in (members_of (structs_in table structs) s) ≡ map (meaning table) (types_of (unwrap_or (slice_get (map listed structs) s) []))
struct_same table [] zero = refl
struct_same table [] (suc s) = refl
struct_same table (m ∷ ms) zero = members_same table m
struct_same table (m ∷ ms) (suc s) = struct_same table ms s

-- the table has the members that structs have at the end
pub fields_end : (externs : List Name) (unit : Unit) (walk : Elaborator) → IsToldSource externs unit walk → (s : ℕ) → fields_in (at_end externs unit) s ≡ fields_listed walk.types s
fields_end externs unit walk told s =
    ap (λ structs. types_in (members_of structs s)) (sym told.structs) ∙ (struct_same walk.types walk.names.structs s ∙
    ap (λ ms. map (meaning walk.types) (types_of (unwrap_or (slice_get ms s) []))) (sym told.listed.members))

entry_type_same : (f g : ℕ → List Ty) (t : Ty) (k : ℕ) → ((s : ℕ) → t ≡ Struct s → f s ≡ g s) → entry_type f t k ≡ entry_type g t k
entry_type_same f g Void k same = refl
entry_type_same f g (Int j) k same = refl
entry_type_same f g ThreadId k same = refl
entry_type_same f g Mutex k same = refl
entry_type_same f g Cond k same = refl
entry_type_same f g (Pointer t) k same = refl
entry_type_same f g (Array t n) k same = refl
entry_type_same f g (Struct s) k same = ap (λ ts. slice_get ts k) (same s refl)
entry_type_same f g (Function result params dots) k same = refl
entry_type_same f g (Opaque n) k same = refl

-- ---- an entry

pub entry_put : (walk : Elaborator) (t : ℕ) (path : List CellStep) (k : ℕ) (entry : Entry) (step : CellStep) (u : ℕ) (added : List PartGiven) → entry.designators ≡ [] →
    step_to (meaning walk.types t) k ≡ Some step → entry_type (fields_listed walk.types) (meaning walk.types t) k ≡ Some (meaning walk.types u) →
    GivesTo walk u (path ++ step ∷ []) entry.init added → GivesToEntry walk t path k entry added
entry_put walk t path k entry step u added none step_is type_is gives externs unit told env object bytes no_text node fields type =
    let inner = meaning walk.types u in
    let inner_is : entry_type (fields_in env) object.type k ≡ Some inner =
    entry_type_same (fields_in env) (fields_listed walk.types) object.type k fields ∙ (ap (λ u. entry_type (fields_listed walk.types) u k) type ∙ type_is) in
    let same : entry_object env (Some object) bytes k ≡ Some (record object { type = inner; is_inner = true }) =
    ap (λ b. if b then Some object else inner_object object (entry_type (fields_in env) object.type k)) no_text ∙ ap (inner_object object) inner_is in
    record {
      none = none;
      step = step;
      step_is = ap (λ u. step_to u k) type ∙ step_is;
      inner = inner;
      inner_is = inner_is;
      parts = gives externs unit told env (record object { type = inner; is_inner = true }) (subst (λ o. IsNode externs unit env (AnInitialiser o entry.init)) same node) refl;
    }

-- ---- braces

no_text_for : (t : Ty) → is_text_for t None ≡ false
no_text_for Void = refl
no_text_for (Int j) = refl
no_text_for ThreadId = refl
no_text_for Mutex = refl
no_text_for Cond = refl
no_text_for (Pointer t) = refl
no_text_for (Array t n) = refl
no_text_for (Struct s) = refl
no_text_for (Function result params dots) = refl
no_text_for (Opaque n) = refl

is_alone : (t : Ty) (e : Entry) (es : List Entry) → is_text_for t (text_alone (e ∷ es)) ≡ true → es ≡ []
is_alone t e [] is = refl
is_alone t e (o ∷ os) is = absurd (false≢true (sym (no_text_for t) ∙ is))

pub text_in_braces : (walk : Elaborator) (t : ℕ) (path : List CellStep) (e : Entry) (es : List Entry) (added : List PartGiven) → e.designators ≡ [] → GivesTo walk t path e.init added →
    GivesToText walk t path (e ∷ es) added
text_in_braces walk t path e es added none gives externs unit told env object init list form entries is node type =
    let one : (out-InitList list).entries ≡ e ∷ [] = entries ∙ ap (λ os. e ∷ os) (is_alone object.type e es is) in
    let is_text : is_text_for object.type (text_alone (e ∷ [])) ≡ true = subst (λ os. is_text_for object.type (text_alone (e ∷ os)) ≡ true) (is_alone object.type e es is) is in
    let text = text_alone (e ∷ []) in
    let behind = extend env (designators_add env e.designators) in
    let part = at behind (AnInitialiser (Some object) e.init) in
    let among : IsIn part (entries_in_turn (Some object) text env 0 (e ∷ [])) =
    in_right part (designator_parts env e.designators) _ (inl (ap (λ b. at behind (AnInitialiser (if b then Some object else inner_object object (entry_type (fields_in behind) object.type 0)) e.init)) (sym is_text))) in
    let there : IsIn part (parts_of_init (Some object) env (out-Init init)) =
    subst (λ f. IsIn part (parts_of_init (Some object) env f)) (sym form) (subst (λ os. IsIn part (entries_in_turn (Some object) (text_alone os) env 0 os)) (sym one) among) in
    let stands = part_stands externs unit part node there in
    let got = gives externs unit told env object (subst (λ here. IsNode externs unit here (AnInitialiser (Some object) e.init)) (undesignated env e.designators none) stands) type in
    record { parts = got.parts; given = by_braced_text form one is_text got.given; are = got.are }

none_of : {A : Type 0} (xs : List A) → true ≡ (length xs == 0) → xs ≡ []
none_of [] is = refl
none_of (x ∷ xs) is = absurd (grind (arith, nat_tests))

pub first_in_braces : (walk : Elaborator) (t : ℕ) (path : List CellStep) (entries : List Entry) (d d' : Entry) (ds : List Designator) (added : List PartGiven) → false ≡ (length entries == 0) →
    true ≡ (length ds == 0) → ds ≡ (get_or entries 0 d).designators → GivesTo walk t path (get_or entries 0 d').init added → GivesToText walk t path entries added
first_in_braces walk t path [] d d' ds added some none is gives = absurd (false≢true some)
first_in_braces walk t path (e ∷ es) d d' ds added some none is gives = text_in_braces walk t path e es added (sym is ∙ none_of ds none) gives

pub entries_in_braces : (walk : Elaborator) (t : ℕ) (path : List CellStep) (inner : InitList) (added : List PartGiven) → is_text_for (meaning walk.types t) (text_alone (out-InitList inner).entries) ≡ false →
    GivesToEntries walk t path (out-InitList inner).entries added → GivesToList walk t path inner added
entries_in_braces walk t path inner added no_text gives init form externs unit told env object node type =
    let es = (out-InitList inner).entries in
    let text = text_alone es in
    let no : is_text_for object.type text ≡ false = ap (λ u. is_text_for u text) type ∙ no_text in
    let there = λ (part : Placed) (is : IsIn part (entries_in_turn (Some object) text env 0 es)).
    subst (λ f. IsIn part (parts_of_init (Some object) env f)) (sym form) is in
    let got = gives externs unit told env object text no
    (λ part is. (
      part_stands externs unit part node (there part is),
      λ s is_struct. told.settled env part.env object init part.node s node (subst (Holds (fields_in env) s) (sym is_struct) itself) (stands_as_part externs unit part (there part is)) ∙
          fields_end externs unit walk told s,
    )) type in
    record { parts = got.parts; given = by_entries form no got.given; are = got.are }

pub braced_text_put : (walk : Elaborator) (t : ℕ) (path : List CellStep) (inner : InitList) (added : List PartGiven) → is_text_for (meaning walk.types t) (text_alone (out-InitList inner).entries) ≡ true →
    GivesToText walk t path (out-InitList inner).entries added → GivesToList walk t path inner added
braced_text_put walk t path inner added is_text gives init form externs unit told env object node type =
    gives externs unit told env object init inner form refl (ap (λ u. is_text_for u (text_alone (out-InitList inner).entries)) type ∙ is_text) node type

-- ---- by the form

pub by_expression : (walk : Elaborator) (t : ℕ) (path : List CellStep) (i : Init) (e : Expr) (added : List PartGiven) → i ≡ init.Expr e → GivesToExpr walk t path e added → GivesTo walk t path i added
by_expression walk t path i e added is gives = gives i (ap out-Init (is ∙ sym (init.rolls-Expr e)) ∙ out-roll-Init (Init-F.Expr e))

pub by_list : (walk : Elaborator) (t : ℕ) (path : List CellStep) (i : Init) (inner : InitList) (added : List PartGiven) → i ≡ init.List inner → GivesToList walk t path inner added → GivesTo walk t path i added
by_list walk t path i inner added is gives = gives i (ap out-Init (is ∙ sym (init.rolls-List inner)) ∙ out-roll-Init (Init-F.List inner))

-- ---- what is left of a list

pub next_left : {A : Type 0} (xs : List A) (i : ℕ) (x : A) → i < length xs → x ≡ get_or xs i x → drop i xs ≡ x ∷ drop (i + 1) xs
next_left xs i x below is =
    let next : suc i ≡ i + 1 = omega arith in
    drop-cons xs i x below ∙ (ap (λ y. y ∷ drop (suc i) xs) (sym is) ∙ ap (λ n. x ∷ drop n xs) next)

pub nothing_left : {A : Type 0} (xs : List A) (i : ℕ) → length xs ≤ i → drop i xs ≡ []
nothing_left [] zero past = refl
nothing_left [] (suc i) past = refl
nothing_left (x ∷ xs) zero past = absurd (omega arith)
nothing_left (x ∷ xs) (suc i) past = nothing_left xs i (omega arith)
