-- What is reached by an expression, by its form and what is reached by its parts.
use Rattle.std.proofs.Common.{◌≡◌, ◌∙◌, inl, inr, true, false, ℕ, List, [], ◌∷◌, Option, Some, None, map, refl, sym, ap, subst}
use Rattle.std.specs.Prelude.{suc, if◌then◌else◌}
use Rattle.std.proofs.lemmas.Option.{none-some}
use Rattle.lk_tree.specs.declared.expression.DeclaratorForm.TheOpen.{ExprForm-F}
use Rattle.lk_tree.specs.declared.expression.Expr.{Expr}
use Rattle.lk_tree.specs.declared.expression.ExprForm.TheVariants as tree
use Rattle.lk_tree.specs.declared.expression.TypeName.{TypeName}
use Rattle.lk_tree.specs.declared.operators.BinaryOperator.{BinaryOperator}
use Rattle.lk_tree.specs.declared.operators.PrefixOperator.{PrefixOperator}
use Rattle.lk_types.specs.Table.{Table}
use Rattle.lk_typed.specs.Addresses.{inside, member_at, value}
use Rattle.lk_typed.specs.Conversions.{converted_address}
use Rattle.lk_typed.specs.Elaborated.{InPlace, PlacedForm, form_of, name_in, typing_at}
use Rattle.lk_typed.specs.Env.{Env, Field, Name, as_operand, extend, is_name, number_of_field}
use Rattle.lk_typed.specs.Expressions.{at_pair, expression}
use Rattle.lk_typed.specs.Forms.{as_cast, behind, in_place, parts_in, role_in_parentheses, role_in_prefix}
use Rattle.lk_typed.specs.Nodes.{AnExpression, ATypeName, Placed, at}
use Rattle.lk_typed.specs.Stands.{IsIn}
use Rattle.lk_typed.specs.Stands.Stands.{here, inside as stands_inside}
use Rattle.lk_typed.specs.Ty.{Pointer}
use Rattle.lk_typed.specs.Typing.{AtText, NullAddress, Typing}
use Rattle.lk_typed.specs.Typings.{IsTyping}
use Rattle.lk_typed.specs.Words.{whole_of}
use Rattle.lk_typed.specs.declared.members.Field.{Field as FieldFound}
use Rattle.lk_typed.specs.declared.members.Members.TheVariants as members
use Rattle.lk_found.specs.Addresses.{kept_of, prefix_address}
use Rattle.lk_found.specs.declared.addresses.Address.{Address}
use Rattle.lk_found.specs.Findings.{IsFoundTyping}
use Rattle.lk_found.specs.declared.found.Found.{Found}
use Rattle.lk_elaborator.specs.Fields.{IsFieldNumber, number_of_name}
use Rattle.lk_elaborator.specs.Known.{IsFoundAt, OfEach}
use Rattle.lk_elaborator.specs.Telling.{HasFields, IsTold, IsTrueOf}
use Rattle.lk_elaborator.specs.declared.elaborator.Elaborator.{Elaborator}
use Rattle.lk_elab_init.specs.Reaching.{HasAddress, HasValueKept, IsConvertedReached, IsKept, IsMemberBehind, IsMemberOf, IsMovedTo, IsNamed, IsReached, IsReachedAs, IsValueKept, MovesFrom, OfTyping, address_in, is_reached}
use Rattle.lk_elab_init.specs.declared.positions.Reached.{Reached}
use Rattle.lk_elab_init.specs.declared.reached.Kept.{Kept}
use Rattle.lk_elab_init.specs.declared.reached.ValueKept.{ValueKept}
use Rattle.lk_elab_init.proofs.Addressing.{arrow_address, binary_address_is, cast_address_is, dot_address, form_at, index_address, paren_address, prefix_address_is, same_some, text_address, word_address}
use Rattle.lk_elab_init.proofs.Reaching.{binary_moves, cast_reached, index_moves}

-- ---- the parts of an expression stand in the source as it does

abbrev pub IsToldOf : Env → Elaborator → InPlace → Type 0
IsToldOf at_end walk p = IsTold at_end walk p.0 (AnExpression p.1)

abbrev parts_of : PlacedForm → List Placed
parts_of form = map at_pair (parts_in (in_place AnExpression) (in_place ATypeName) form)

abbrev expression_at : InPlace → Placed
expression_at i = at i.0 (AnExpression i.1)

pub true_of : (at_end : Env) (walk : Elaborator) (p : InPlace) → IsToldOf at_end walk p → IsTrueOf walk p
true_of at_end walk p told = told.expressions p.0 p.1 here

module _ (at_end : Env) (walk : Elaborator) (p : InPlace) (told : IsToldOf at_end walk p) where
  told_part : (part : Placed) → IsIn part (parts_of (form_of p)) → IsTold at_end walk part.env part.node
  told_part part is = record {
    ready = told.ready;
    expressions = λ e' x stands. told.expressions e' x (stands_inside part is stands);
    names = λ e' n stands. told.names e' n (stands_inside part is stands);
  }

  told_by : (form : PlacedForm) (i : InPlace) → form_of p ≡ form → IsIn (expression_at i) (parts_of form) → IsToldOf at_end walk i
  told_by form i is within = told_part (expression_at i) (subst (λ form. IsIn (expression_at i) (parts_of form)) (sym is) within)

-- ---- the numbers of members

named_number : (fields : List Field) (name : Name) → number_of_name (map (λ field. field.name) fields) name ≡ number_of_field fields name
named_number [] name = refl
named_number (field ∷ others) name = ap (λ k. if is_name field.name name then 0 else suc k) (named_number others name)

known_same : (a b : List FieldFound) → members.Known a ≡ members.Known b → a ≡ b
known_same a b e = cc

field_number : (walk : Elaborator) (s k : ℕ) (name : Name) (fields : List Field) → IsFieldNumber walk.names.structs s name k → HasFields walk s fields → k ≡ number_of_field fields name
field_number walk s k name fields is has =
    let same = known_same is.fields has.0 (same_some (sym is.known ∙ has.1)) in
    is.number ∙ ap (λ (found : List FieldFound). number_of_name (map (λ field. field.name) found) name) same ∙ ap (λ names. number_of_name names name) has.2 ∙ named_number fields name

-- ---- what was found

with_kept : (table : Table) (p : InPlace) (f : Found) (found : Kept) (x : Option Typing) → typing_at p ≡ x → IsFoundTyping table f x → f.typing ≡ Some found.typing → f.address ≡ found.address → IsKept table p found
with_kept table p f found None own there typing address = absurd (none-some found.typing (sym there ∙ typing))
with_kept table p f found (Some x) own there typing address = record {
  typing = x;
  has = own;
  is = subst (λ t. IsTyping table t x) (same_some (sym there.1 ∙ typing)) there.2;
  address = sym address ∙ there.3;
}

pub found_kept : (table : Table) (p : InPlace) (f : Found) (found : Kept) → IsFoundAt table p f → f.typing ≡ Some found.typing → f.address ≡ found.address → IsKept table p found
found_kept table p f found is typing address = with_kept table p f found (typing_at p) refl is.typing typing address

pub kept_address : (p : InPlace) (address : Address) (x : Typing) → HasAddress p address → typing_at p ≡ Some x → address ≡ kept_of x.address
kept_address p address x is own = is.is ∙ ap (λ (y : Typing). kept_of y.address) (same_some (sym is.has ∙ own))

pub kept_value : (p : InPlace) (found : ValueKept) (x : Typing) → HasValueKept p found → typing_at p ≡ Some x → IsValueKept x found
kept_value p found x is own = subst (λ y. IsValueKept y found) (same_some (sym is.has ∙ own)) is.is

pub null_converted : (v : Typing) → v.is_null ≡ true → converted_address v ≡ NullAddress
null_converted v is = ap (λ b. if b then NullAddress else v.address) is

pub not_null_converted : (v : Typing) → v.is_null ≡ false → converted_address v ≡ v.address
not_null_converted v is = ap (λ b. if b then NullAddress else v.address) is

-- ---- by the form

module _ (walk : Elaborator) (e : Expr) (address : Address) (r : Reached) where
  pub word_reached : OfEach walk e.ordinal (λ p. IsNamed p r) → IsReachedAs walk e address r
  word_reached says at_end p same told x own kept =
      let is = says p (ap (λ (e : Expr). e.ordinal) same) (true_of at_end walk p told) in
      word_address p x own is.declared is.stands ∙ is.address

  pub text_reached : (bytes : List ℕ) → e.form ≡ tree.Text bytes → address_in r ≡ whole_of (AtText e.ordinal) → IsReachedAs walk e address r
  text_reached bytes is says at_end p same told x own kept =
      let form = form_at p (tree.Text bytes) (ExprForm-F.Text bytes) (ap (λ (e : Expr). e.form) same ∙ is) (tree.rolls-Text bytes) in
      text_address p x own bytes form ∙ ap (λ (e : Expr). whole_of (AtText e.ordinal)) same ∙ sym says

  pub paren_reached : (operand : Expr) → e.form ≡ tree.Paren operand → IsReached walk operand r → IsReachedAs walk e address r
  paren_reached operand is says at_end p same told x own kept =
      let i : InPlace = (record p.0 { role = role_in_parentheses p.0.role }, operand) in
      let form = form_at p (tree.Paren operand) (ExprForm-F.Paren operand) (ap (λ (e : Expr). e.form) same ∙ is) (tree.rolls-Paren operand) in
      let one = paren_address p x own i form in
      one.is ∙ says at_end i refl (told_by at_end walk p told (ExprForm-F.Paren i) i form (inl refl)) one.operand one.found

  pub prefix_reached : (o : PrefixOperator) (operand : Expr) → e.form ≡ tree.Prefix o operand → OfTyping walk operand (λ x. prefix_address o x ≡ address_in r) → IsReachedAs walk e address r
  prefix_reached o operand is says at_end p same told x own kept =
      let i : InPlace = (record p.0 { role = role_in_prefix o p.0.role }, operand) in
      let form = form_at p (tree.Prefix o operand) (ExprForm-F.Prefix o operand) (ap (λ (e : Expr). e.form) same ∙ is) (tree.rolls-Prefix o operand) in
      let one = prefix_address_is p x own o i form in
      one.is ∙ says at_end i refl (told_by at_end walk p told (ExprForm-F.Prefix o i) i form (inl refl)) one.operand one.found

  pub index_reached : (pointer offset : Expr) → e.form ≡ tree.Index pointer offset → IsMovedTo walk pointer address r → IsReachedAs walk e address r
  index_reached pointer offset is says at_end p same told x own kept =
      let i : InPlace = (as_operand p.0, pointer) in
      let j : InPlace = (as_operand (behind p.0 (expression pointer (as_operand p.0))), offset) in
      let form = form_at p (tree.Index pointer offset) (ExprForm-F.Index pointer offset) (ap (λ (e : Expr). e.form) same ∙ is) (tree.rolls-Index pointer offset) in
      let two = index_address p x own i j form in
      says at_end i refl (told_by at_end walk p told (ExprForm-F.Index i j) i form (inl refl)) two.left two.left_found x.address
      (λ position there. subst (MovesFrom position) (sym two.is) (index_moves position (value two.left) (value two.right) there)) kept

  pub binary_reached : (o : BinaryOperator) (pointer offset : Expr) → e.form ≡ tree.Binary o pointer offset → IsMovedTo walk pointer address r → IsReachedAs walk e address r
  binary_reached o pointer offset is says at_end p same told x own kept =
      let i : InPlace = (as_operand p.0, pointer) in
      let j : InPlace = (as_operand (behind p.0 (expression pointer (as_operand p.0))), offset) in
      let form = form_at p (tree.Binary o pointer offset) (ExprForm-F.Binary o pointer offset) (ap (λ (e : Expr). e.form) same ∙ is) (tree.rolls-Binary o pointer offset) in
      let two = binary_address_is p x own o i j form in
      says at_end i refl (told_by at_end walk p told (ExprForm-F.Binary o i j) i form (inl refl)) two.left two.left_found x.address
      (λ position there. subst (MovesFrom position) (sym two.is) (binary_moves position o (value two.left) (value two.right) there)) kept

  module _ (reached : is_reached address ≡ true) where
    pub cast_is_reached : (name : TypeName) (operand : Expr) → e.form ≡ tree.Cast name operand → IsConvertedReached walk operand r → IsReachedAs walk e address r
    cast_is_reached name operand is says at_end p same told x own kept =
        let found = name_in name (as_operand p.0) in
        let n : Env × TypeName = (as_operand p.0, name) in
        let i : InPlace = (as_cast found.type (extend p.0 found.adds), operand) in
        let form = form_at p (tree.Cast name operand) (ExprForm-F.Cast name operand) (ap (λ (e : Expr). e.form) same ∙ is) (tree.rolls-Cast name operand) in
        let one = cast_address_is p x own n i form in
        one.is.1 ∙ cast_reached one.is.0 (value one.operand) (ap (λ a. is_reached (kept_of a)) (sym one.is.1) ∙ sym (ap is_reached kept) ∙ reached) ∙
        says at_end i refl (told_by at_end walk p told (ExprForm-F.Cast n i) i form (inr (inl refl))) one.operand one.found

    pub member_reached : (object : Expr) (name : Name) → e.form ≡ tree.Member object name → IsMemberOf walk object name r → IsReachedAs walk e address r
    member_reached object name is says at_end p same told x own kept =
        let i : InPlace = (as_operand p.0, object) in
        let form = form_at p (tree.Member object name) (ExprForm-F.Member object name) (ap (λ (e : Expr). e.form) same ∙ is) (tree.rolls-Member object name) in
        let one = dot_address p i name x own form in
        let m = says at_end i refl (told_by at_end walk p told (ExprForm-F.Member i name) i form (inl refl)) one.operand one.found in
        let part = one.is m.s m.type in
        let same_number = field_number walk m.s m.k name part.fields m.number ((true_of at_end walk p told).structs m.s part.fields part.known) in
        m.address x.address (sym (ap is_reached kept) ∙ reached) (part.is ∙ ap (λ k. inside (member_at k) one.operand.address) (sym same_number))

    pub arrow_reached : (pointer : Expr) (name : Name) → e.form ≡ tree.Arrow pointer name → IsMemberBehind walk pointer name r → IsReachedAs walk e address r
    arrow_reached pointer name is says at_end p same told x own kept =
        let i : InPlace = (as_operand p.0, pointer) in
        let form = form_at p (tree.Arrow pointer name) (ExprForm-F.Arrow pointer name) (ap (λ (e : Expr). e.form) same ∙ is) (tree.rolls-Arrow pointer name) in
        let one = arrow_address p i name x own form in
        let m = says at_end i refl (told_by at_end walk p told (ExprForm-F.Arrow i name) i form (inl refl)) one.operand one.found in
        let part = one.is m.2.s (m.1 ∙ ap Pointer m.2.type) in
        let same_number = field_number walk m.2.s m.2.k name part.fields m.2.number ((true_of at_end walk p told).structs m.2.s part.fields part.known) in
        m.2.address x.address (sym (ap is_reached kept) ∙ reached) (part.is ∙ ap (λ k. inside (member_at k) (value one.operand).address) (sym same_number))
