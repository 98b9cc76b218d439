-- Each place in an expression, a declarator or a specifier that is read is that of a token which is read.
use Rattle.std.proofs.Common.{◌≡◌, ◌∙◌, inl, inr, ℕ, Bool, false, List, [], ◌∷◌, Option, Some, None, drop, refl, sym, ap, subst}
use Rattle.std.proofs.lemmas.Option.{none-some, same_Some}
use Rattle.std.specs.Prelude.{⊤}
use Rattle.lk_base.specs.declared.spot.Spot.{Spot}
use Rattle.lk_lex.specs.declared.keyword.Keyword.TheVariants as w
use Rattle.lk_lex.specs.declared.token.Token.{Token}
use Rattle.lk_lex.specs.declared.token.TokenKind.{TokenKind}
use Rattle.lk_lex.specs.declared.token.TokenKind.TheVariants as k
use Rattle.lk_tree.specs.declared.expression.Declarator.{Declarator}
use Rattle.lk_tree.specs.declared.expression.DeclaratorForm.{DeclaratorForm, out-DeclaratorForm}
use Rattle.lk_tree.specs.declared.expression.DeclaratorForm.TheVariants as d
use Rattle.lk_tree.specs.declared.expression.Expr.{Expr}
use Rattle.lk_tree.specs.declared.expression.ExprForm.{ExprForm, out-ExprForm}
use Rattle.lk_tree.specs.declared.expression.ExprForm.TheVariants as e
use Rattle.lk_tree.specs.declared.expression.Item.{Item}
use Rattle.lk_tree.specs.declared.expression.Member.{Member}
use Rattle.lk_tree.specs.declared.expression.MemberDeclarator.{MemberDeclarator}
use Rattle.lk_tree.specs.declared.expression.MemberDeclarator.TheVariants as m
use Rattle.lk_tree.specs.declared.expression.Parameter.{Parameter}
use Rattle.lk_tree.specs.declared.expression.Specifier.{Specifier}
use Rattle.lk_tree.specs.declared.expression.Specifier.TheVariants as v
use Rattle.lk_tree.specs.declared.expression.TypeName.{TypeName}
use Rattle.lk_tree.specs.declared.specifiers.Qualifier.{Qualifier}
use Rattle.lk_tree.specs.declared.specifiers.Qualifier.TheVariants as qualifier
use Rattle.lk_tree.specs.declared.specifiers.Storage.TheVariants as storage
use Rattle.lk_tree.specs.declared.specifiers.TypeWord.TheVariants as type_word
use Rattle.lk_typed.specs.Stands.{IsIn}
use Rattle.lk_parse_expr.specs.declared.naming.Head.{Head}
use Rattle.lk_parse_expr.specs.declared.naming.Head.TheVariants as head
use Rattle.lk_parse_expr.specs.declared.naming.Naming.{Naming}
use Rattle.lk_parse_expr.specs.Grammar as g
use Rattle.lk_parse_expr.specs.Grammar.{expr_at, declarator_at, ReadsTexts, ReadsQualifiers, ReadsExpr, ReadsArguments, ReadsExprs, ReadsTypeName, ReadsSpecifiers, ReadsSpecifier, ReadsTag, ReadsMembers, ReadsMember, ReadsMemberDeclarators, ReadsMemberDeclarator, ReadsItems, ReadsItem, ReadsDeclarator, ReadsSize, ReadsParameters, ReadsParameterList, ReadsParameter}
use Rattle.lk_parse_expr.specs.Heads.{declare_head}
use Rattle.lk_parse_expr.specs.Input.{Input, declare, here, kind_of, leave, next, peek, spot_of, text}
use Rattle.lk_parse_expr.specs.Words.{prefix_of, specifier_of, step_of}
use Rattle.lk_spots.specs.Places as s
use Rattle.lk_spots.specs.Places.{Each, IfThere, ExprSpots, ExprFormSpots, TypeNameSpots, SpecifierSpots, MemberSpots, FieldSpots, ItemSpots, DeclaratorSpots, DeclaratorFormSpots, ParameterSpots}
use Rattle.lk_spots.proofs.Lists.{each_none, each_more, each_one, if_missing, if_there}
use Rattle.lk_spots.proofs.Variants.{expr_form_at, declarator_form_at, specifier_at, field_at, item_at, parameter_at, type_name_at}

module _ (P : Spot → Type 0) where
  -- ---- the tokens that are left

  abbrev pub TokensSpots : List Token → Type 0
  TokensSpots tokens = (token : Token) → IsIn token tokens → P token.spot

  -- the place of each token that is left has the property
  pub record Along (i : Input) : Type 0 where
    pub each : TokensSpots i.tokens

  behind_first : (tokens : List Token) → TokensSpots tokens → TokensSpots (drop 1 tokens)
  behind_first [] each = each
  behind_first (t ∷ ts) each = λ token is. each token (inr is)

  pub along-next : (i : Input) → Along i → Along (next i)
  unfolding next
  along-next i along = record { each = behind_first i.tokens along.each }

  pub along-declare : (name : List ℕ) (typedef : Bool) (i : Input) → Along i → Along (declare name typedef i)
  unfolding declare
  along-declare name typedef i along = record { each = along.each }

  pub along-leave : (outer i : Input) → Along i → Along (leave outer i)
  unfolding leave
  along-leave outer i along = record { each = along.each }

  pub along-head : (h : Head) (typedef : Bool) (i : Input) → Along i → Along (declare_head h typedef i)
  along-head head.Abstract typedef i along = along
  along-head (head.Bare name) typedef i along = along-declare name typedef i along
  along-head (head.Function name parameters) typedef i along = along-declare name typedef i along
  along-head (head.Other name) typedef i along = along-declare name typedef i along

  in_front : (tokens : List Token) → TokensSpots tokens → (kind_of tokens ≡ k.End → ⊥) → P (spot_of tokens)
  in_front [] each some = absurd (some refl)
  in_front (t ∷ ts) each some = each t (inl refl)

  -- a token is in front: its place is the one there
  pub front : (i : Input) → Along i → (peek i ≡ k.End → ⊥) → P (here i)
  unfolding here peek
  front i along some = in_front i.tokens along.each some

  -- so it is where what is in front stands for something
  pub front-some : {A : Type 0} (f : TokenKind → Option A) (i : Input) {a : A} → f k.End ≡ None → Along i → f (peek i) ≡ Some a → P (here i)
  front-some f i {a} none along is = front i along (λ end. none-some a (sym none ∙ (sym (ap f end) ∙ is)))

  -- ---- what is read

  -- a part that begins at a token, and what is behind it
  pub record Reading (Part : Type 0) (from rest : Input) : Type 0 where
    pub front : P (here from)
    pub part : Part
    pub behind : Along rest

  -- a part that may be of no token
  pub record Perhaps (Part : Type 0) (rest : Input) : Type 0 where
    pub part : Part
    pub behind : Along rest

  pub reads : {Part : Type 0} {from rest : Input} → P (here from) → Part → Along rest → Reading Part from rest
  reads place part along = record { front = place; part = part; behind = along }

  pub perhaps : {Part : Type 0} {rest : Input} → Part → Along rest → Perhaps Part rest
  perhaps part along = record { part = part; behind = along }

  expr_reads : {form : ExprForm} {from rest : Input} → P (here from) → ExprFormSpots P (out-ExprForm form) → Along rest → Reading (ExprSpots P (expr_at from form)) from rest
  expr_reads place form along = reads place (s.expr place form) along

  declarator_reads : {form : DeclaratorForm} {from rest : Input} → P (here from) → DeclaratorFormSpots P (out-DeclaratorForm form) → Along rest
      → Reading (DeclaratorSpots P (declarator_at from form)) from rest
  declarator_reads place form along = reads place (s.declarator place form) along

  at-texts : {bytes : List ℕ} {from rest : Input} → ReadsTexts bytes from rest → Along from → Reading ⊤ from rest
  at-texts (g.text_last {from = from} is) along = reads (front from along (λ end. cc)) tt (along-next from along)
  at-texts (g.text_more {from = from} is others) along = reads (front from along (λ end. cc)) tt (at-texts others (along-next from along)).behind

  at-qualifiers : {list : List Qualifier} {from rest : Input} → ReadsQualifiers list from rest → Along from → Along rest
  at-qualifiers (g.qualifiers_none is) along = along
  at-qualifiers (g.qualifiers_more {from = from} is others) along = at-qualifiers others (along-next from along)

  at-tag : {tag : Option (List ℕ)} {from rest : Input} → ReadsTag tag from rest → Along from → Along rest
  at-tag (g.tag_none is) along = along
  at-tag (g.tag_some {from = from} is) along = along-next from along

  -- a keyword that is a specifier by itself has no place in it
  keyword : (kind : TokenKind) (one : Specifier) → specifier_of kind ≡ Some one → SpecifierSpots P one
  keyword (k.Key w.Typedef) one is = subst (SpecifierSpots P) (same_Some _ one is) (specifier_at P _ (v.rolls-Storage storage.Typedef) s.storage)
  keyword (k.Key w.Extern) one is = subst (SpecifierSpots P) (same_Some _ one is) (specifier_at P _ (v.rolls-Storage storage.Extern) s.storage)
  keyword (k.Key w.Static) one is = subst (SpecifierSpots P) (same_Some _ one is) (specifier_at P _ (v.rolls-Storage storage.Static) s.storage)
  keyword (k.Key w.Auto) one is = subst (SpecifierSpots P) (same_Some _ one is) (specifier_at P _ (v.rolls-Storage storage.Auto) s.storage)
  keyword (k.Key w.Register) one is = subst (SpecifierSpots P) (same_Some _ one is) (specifier_at P _ (v.rolls-Storage storage.Register) s.storage)
  keyword (k.Key w.Inline) one is = subst (SpecifierSpots P) (same_Some _ one is) (specifier_at P _ v.rolls-Inline s.inline)
  keyword (k.Key w.Const) one is = subst (SpecifierSpots P) (same_Some _ one is) (specifier_at P _ (v.rolls-Qualifier qualifier.Const) s.qualifier)
  keyword (k.Key w.Volatile) one is = subst (SpecifierSpots P) (same_Some _ one is) (specifier_at P _ (v.rolls-Qualifier qualifier.Volatile) s.qualifier)
  keyword (k.Key w.Restrict) one is = subst (SpecifierSpots P) (same_Some _ one is) (specifier_at P _ (v.rolls-Qualifier qualifier.Restrict) s.qualifier)
  keyword (k.Key w.Void) one is = subst (SpecifierSpots P) (same_Some _ one is) (specifier_at P _ (v.rolls-Type type_word.Void) s.type)
  keyword (k.Key w.Char) one is = subst (SpecifierSpots P) (same_Some _ one is) (specifier_at P _ (v.rolls-Type type_word.Char) s.type)
  keyword (k.Key w.Short) one is = subst (SpecifierSpots P) (same_Some _ one is) (specifier_at P _ (v.rolls-Type type_word.Short) s.type)
  keyword (k.Key w.Int) one is = subst (SpecifierSpots P) (same_Some _ one is) (specifier_at P _ (v.rolls-Type type_word.Int) s.type)
  keyword (k.Key w.Long) one is = subst (SpecifierSpots P) (same_Some _ one is) (specifier_at P _ (v.rolls-Type type_word.Long) s.type)
  keyword (k.Key w.Signed) one is = subst (SpecifierSpots P) (same_Some _ one is) (specifier_at P _ (v.rolls-Type type_word.Signed) s.type)
  keyword (k.Key w.Unsigned) one is = subst (SpecifierSpots P) (same_Some _ one is) (specifier_at P _ (v.rolls-Type type_word.Unsigned) s.type)
  keyword (k.Key w.Bool) one is = subst (SpecifierSpots P) (same_Some _ one is) (specifier_at P _ (v.rolls-Type type_word.Bool) s.type)
  keyword _ one is = absurd cc

  mutual
    pub at-expr : {level h : ℕ} {one : Expr} {from rest : Input} → ReadsExpr level h one from rest → Along from → Reading (ExprSpots P one) from rest
    at-expr (g.comma {mid = mid} l a is b) along =
        let first = at-expr a along in
        let second = at-expr b (along-next mid first.behind) in
        expr_reads first.front (expr_form_at P _ (e.rolls-Comma _ _) (s.comma first.part second.part)) second.behind
    at-expr (g.assign {mid = mid} op l a is b) along =
        let first = at-expr a along in
        let second = at-expr b (along-next mid first.behind) in
        expr_reads first.front (expr_form_at P _ (e.rolls-Assign op _ _) (s.assign first.part second.part)) second.behind
    at-expr (g.choice {mid = mid} {colon = colon} l a is b so c) along =
        let first = at-expr a along in
        let second = at-expr b (along-next mid first.behind) in
        let third = at-expr c (along-next colon second.behind) in
        expr_reads first.front (expr_form_at P _ (e.rolls-Choice _ _ _) (s.choice first.part second.part third.part)) third.behind
    at-expr (g.binary {mid = mid} op l a is b) along =
        let first = at-expr a along in
        let second = at-expr b (along-next mid first.behind) in
        expr_reads first.front (expr_form_at P _ (e.rolls-Binary op _ _) (s.binary first.part second.part)) second.behind
    at-expr (g.cast {from = from} {close = close} l is begins name so operand) along =
        let first = at-type_name name (along-next from along) in
        let second = at-expr operand (along-next close first.behind) in
        expr_reads (front from along (λ end. cc)) (expr_form_at P _ (e.rolls-Cast _ _) (s.cast first.part second.part)) second.behind
    at-expr (g.pre {from = from} op l is operand) along =
        let first = at-expr operand (along-next from along) in
        expr_reads (front-some step_of from refl along is) (expr_form_at P _ (e.rolls-Pre op _) (s.pre first.part)) first.behind
    at-expr (g.prefix {from = from} op l is operand) along =
        let first = at-expr operand (along-next from along) in
        expr_reads (front-some prefix_of from refl along is) (expr_form_at P _ (e.rolls-Prefix op _) (s.prefix first.part)) first.behind
    at-expr (g.sizeof_expr {from = from} l is opens operand) along =
        let first = at-expr operand (along-next from along) in
        expr_reads (front from along (λ end. cc)) (expr_form_at P _ (e.rolls-SizeofExpr _) (s.sizeof_expr first.part)) first.behind
    at-expr (g.sizeof_type {from = from} {close = close} l is opens name so) along =
        let first = at-type_name name (along-next (next from) (along-next from along)) in
        expr_reads (front from along (λ end. cc)) (expr_form_at P _ (e.rolls-SizeofType _) (s.sizeof_type first.part)) (along-next close first.behind)
    at-expr (g.index {mid = mid} {close = close} l a is b so) along =
        let first = at-expr a along in
        let second = at-expr b (along-next mid first.behind) in
        expr_reads first.front (expr_form_at P _ (e.rolls-Index _ _) (s.index first.part second.part)) (along-next close second.behind)
    at-expr (g.call {mid = mid} {close = close} l a is b so) along =
        let first = at-expr a along in
        let second = at-arguments b (along-next mid first.behind) in
        expr_reads first.front (expr_form_at P _ (e.rolls-Call _ _) (s.call first.part second.part)) (along-next close second.behind)
    at-expr (g.member {mid = mid} l a is so) along =
        let first = at-expr a along in
        expr_reads first.front (expr_form_at P _ (e.rolls-Member _ _) (s.member first.part)) (along-next (next mid) (along-next mid first.behind))
    at-expr (g.arrow {mid = mid} l a is so) along =
        let first = at-expr a along in
        expr_reads first.front (expr_form_at P _ (e.rolls-Arrow _ _) (s.arrow first.part)) (along-next (next mid) (along-next mid first.behind))
    at-expr (g.post {mid = mid} op l a is) along =
        let first = at-expr a along in
        expr_reads first.front (expr_form_at P _ (e.rolls-Post op _) (s.post first.part)) (along-next mid first.behind)
    at-expr (g.word {from = from} l is) along = expr_reads (front from along (λ end. cc)) (expr_form_at P _ (e.rolls-Word _) s.word) (along-next from along)
    at-expr (g.number {from = from} l is) along = expr_reads (front from along (λ end. cc)) (expr_form_at P _ (e.rolls-Number _ _) s.number) (along-next from along)
    at-expr (g.char {from = from} l is) along = expr_reads (front from along (λ end. cc)) (expr_form_at P _ (e.rolls-Char _) s.char) (along-next from along)
    at-expr (g.texts l is) along =
        let all = at-texts is along in expr_reads all.front (expr_form_at P _ (e.rolls-Text _) s.text) all.behind
    at-expr (g.paren {from = from} {close = close} l is begins inner so) along =
        let first = at-expr inner (along-next from along) in
        expr_reads (front from along (λ end. cc)) (expr_form_at P _ (e.rolls-Paren _) (s.paren first.part)) (along-next close first.behind)

    at-arguments : {h : ℕ} {xs : List Expr} {from rest : Input} → ReadsArguments h xs from rest → Along from → Perhaps (Each (ExprSpots P) xs) rest
    at-arguments (g.arguments_none is) along = perhaps (each_none (ExprSpots P)) along
    at-arguments (g.arguments_some all) along = at-exprs all along

    at-exprs : {h : ℕ} {xs : List Expr} {from rest : Input} → ReadsExprs h xs from rest → Along from → Perhaps (Each (ExprSpots P) xs) rest
    at-exprs (g.exprs_last one) along = let first = at-expr one along in perhaps (each_one (ExprSpots P) _ first.part) first.behind
    at-exprs (g.exprs_more {mid = mid} one is others) along =
        let first = at-expr one along in
        let all = at-exprs others (along-next mid first.behind) in
        perhaps (each_more (ExprSpots P) _ _ first.part all.part) all.behind

    pub at-type_name : {h : ℕ} {one : TypeName} {from rest : Input} → ReadsTypeName h one from rest → Along from → Reading (TypeNameSpots P one) from rest
    at-type_name (g.name_plain list) along =
        let first = at-specifiers list along in reads first.front (type_name_at P _ _ _ None first.front first.part (if_missing (DeclaratorSpots P))) first.behind
    at-type_name (g.name_declared list inner) along =
        let first = at-specifiers list along in
        let second = at-declarator inner first.behind in
        reads first.front (type_name_at P _ _ _ _ first.front first.part (if_there (DeclaratorSpots P) _ second.part)) second.behind

    pub at-specifiers : {typed typedef : Bool} {h : ℕ} {xs : List Specifier} {from rest : Input} → ReadsSpecifiers typed h typedef xs from rest → Along from
        → Reading (Each (SpecifierSpots P) xs) from rest
    at-specifiers (g.specifiers_last one ends) along = let first = at-specifier one along in reads first.front (each_one (SpecifierSpots P) _ first.part) first.behind
    at-specifiers (g.specifiers_more one others) along =
        let first = at-specifier one along in
        let all = at-specifiers others first.behind in
        reads first.front (each_more (SpecifierSpots P) _ _ first.part all.part) all.behind

    at-specifier : {typed after typedef : Bool} {h : ℕ} {one : Specifier} {from rest : Input} → ReadsSpecifier typed after h typedef one from rest → Along from
        → Reading (SpecifierSpots P one) from rest
    at-specifier (g.spec_keyword {from = from} one is) along = reads (front-some specifier_of from refl along is) (keyword (peek from) one is) (along-next from along)
    at-specifier (g.spec_name {from = from} is typedef) along = reads (front from along (λ end. cc)) (specifier_at P _ (v.rolls-Typedef _) s.typedef) (along-next from along)
    at-specifier (g.spec_struct_tag {from = from} is so no_brace) along =
        reads (front from along (λ end. cc)) (specifier_at P _ (v.rolls-StructTag _) s.struct_tag) (along-next (next from) (along-next from along))
    at-specifier (g.spec_struct {from = from} {brace = brace} {close = close} is tag open_ members so) along =
        let all = at-members members (along-next brace (at-tag tag (along-next from along))) in
        reads (front from along (λ end. cc)) (specifier_at P _ (v.rolls-Struct _ _) (s.struct all.part)) (along-next close all.behind)
    at-specifier (g.spec_enum_tag {from = from} is so no_brace) along =
        reads (front from along (λ end. cc)) (specifier_at P _ (v.rolls-EnumTag _) s.enum_tag) (along-next (next from) (along-next from along))
    at-specifier (g.spec_enum {from = from} {brace = brace} {close = close} is tag open_ items so) along =
        let all = at-items items (along-next brace (at-tag tag (along-next from along))) in
        reads (front from along (λ end. cc)) (specifier_at P _ (v.rolls-Enum _ _) (s.enum all.part)) (along-next close all.behind)

    at-members : {h : ℕ} {xs : List Member} {from rest : Input} → ReadsMembers h xs from rest → Along from → Perhaps (Each (MemberSpots P) xs) rest
    at-members (g.members_last one) along = let first = at-member one along in perhaps (each_one (MemberSpots P) _ first.part) first.behind
    at-members (g.members_more one others) along =
        let first = at-member one along in
        let all = at-members others first.behind in
        perhaps (each_more (MemberSpots P) _ _ first.part all.part) all.behind

    at-member : {h : ℕ} {one : Member} {from rest : Input} → ReadsMember h one from rest → Along from → Reading (MemberSpots P one) from rest
    at-member (g.member_one {rest = rest} list declarators is) along =
        let first = at-specifiers list along in
        let all = at-fields declarators first.behind in
        reads first.front (s.member_one first.front first.part all.part) (along-next rest all.behind)

    at-fields : {h : ℕ} {xs : List MemberDeclarator} {from rest : Input} → ReadsMemberDeclarators h xs from rest → Along from → Perhaps (Each (FieldSpots P) xs) rest
    at-fields (g.fields_last one) along = let first = at-field one along in perhaps (each_one (FieldSpots P) _ first.part) first.behind
    at-fields (g.fields_more {mid = mid} one is others) along =
        let first = at-field one along in
        let all = at-fields others (along-next mid first.behind) in
        perhaps (each_more (FieldSpots P) _ _ first.part all.part) all.behind

    at-field : {h : ℕ} {one : MemberDeclarator} {from rest : Input} → ReadsMemberDeclarator h one from rest → Along from → Perhaps (FieldSpots P one) rest
    at-field (g.field_plain inner) along = let first = at-declarator inner along in perhaps (field_at P _ (m.rolls-Plain _) (s.plain first.part)) first.behind
    at-field (g.field_width {mid = mid} inner is bits) along =
        let first = at-declarator inner along in
        let second = at-expr bits (along-next mid first.behind) in
        perhaps (field_at P _ (m.rolls-Field _ _) (s.width first.part second.part)) second.behind
    at-field (g.field_unnamed {from = from} is bits) along =
        let first = at-expr bits (along-next from along) in perhaps (field_at P _ (m.rolls-Unnamed _) (s.unnamed first.part)) first.behind

    at-items : {h : ℕ} {xs : List Item} {from rest : Input} → ReadsItems h xs from rest → Along from → Perhaps (Each (ItemSpots P) xs) rest
    at-items (g.items_last one) along = let first = at-item one along in perhaps (each_one (ItemSpots P) _ first.part) first.behind
    at-items (g.items_comma {rest = rest} one is so) along = let first = at-item one along in perhaps (each_one (ItemSpots P) _ first.part) (along-next rest first.behind)
    at-items (g.items_more {mid = mid} one is others) along =
        let first = at-item one along in
        let all = at-items others (along-next mid first.behind) in
        perhaps (each_more (ItemSpots P) _ _ first.part all.part) all.behind

    at-item : {h : ℕ} {one : Item} {from rest : Input} → ReadsItem h one from rest → Along from → Perhaps (ItemSpots P one) rest
    at-item (g.item_plain {from = from} is) along =
        perhaps (item_at P _ _ _ None (front from along (λ end. cc)) (if_missing (ExprSpots P))) (along-declare (text from) false (next from) (along-next from along))
    at-item (g.item_valued {from = from} {rest = rest} is so value) along =
        let first = at-expr value (along-next (next from) (along-next from along)) in
        perhaps (item_at P _ _ _ _ (front from along (λ end. cc)) (if_there (ExprSpots P) _ first.part)) (along-declare (text from) false rest first.behind)

    pub at-declarator : {n : Naming} {level h : ℕ} {one : Declarator} {head : Head} {from rest : Input} → ReadsDeclarator n level h one head from rest → Along from
        → Reading (DeclaratorSpots P one) from rest
    at-declarator (g.star {from = from} l is list inner) along =
        let first = at-declarator inner (at-qualifiers list (along-next from along)) in
        declarator_reads (front from along (λ end. cc)) (declarator_form_at P _ (d.rolls-Star _ _) (s.star (if_there (DeclaratorSpots P) _ first.part))) first.behind
    at-declarator (g.star_alone {from = from} l omit is list) along =
        declarator_reads (front from along (λ end. cc)) (declarator_form_at P _ (d.rolls-Star _ None) (s.star (if_missing (DeclaratorSpots P)))) (at-qualifiers list (along-next from along))
    at-declarator (g.named {from = from} l names is) along =
        declarator_reads (front from along (λ end. cc)) (declarator_form_at P _ (d.rolls-Named _) s.named) (along-next from along)
    at-declarator (g.group {from = from} {close = close} l is group inner so) along =
        let first = at-declarator inner (along-next from along) in
        declarator_reads (front from along (λ end. cc)) (declarator_form_at P _ (d.rolls-Group _) (s.group first.part)) (along-next close first.behind)
    at-declarator (g.array {mid = mid} {close = close} l inner is size so) along =
        let first = at-declarator inner along in
        let second = at-size size (along-next mid first.behind) in
        declarator_reads first.front (declarator_form_at P _ (d.rolls-ArrayOf _ _) (s.array (if_there (DeclaratorSpots P) _ first.part) second.part)) (along-next close second.behind)
    at-declarator (g.array_alone {from = from} {close = close} l omit is size so) along =
        let second = at-size size (along-next from along) in
        declarator_reads (front from along (λ end. cc)) (declarator_form_at P _ (d.rolls-ArrayOf None _) (s.array (if_missing (DeclaratorSpots P)) second.part)) (along-next close second.behind)
    at-declarator (g.function {mid = mid} {close = close} l inner is parameters so) along =
        let first = at-declarator inner along in
        let all = at-parameters parameters (along-next mid first.behind) in
        declarator_reads first.front (declarator_form_at P _ (d.rolls-FunctionOf _ _ _) (s.function (if_there (DeclaratorSpots P) _ first.part) all.part))
        (along-leave mid (next close) (along-next close all.behind))
    at-declarator (g.function_alone {from = from} {close = close} l omit is opens parameters so) along =
        let all = at-parameters parameters (along-next from along) in
        declarator_reads (front from along (λ end. cc)) (declarator_form_at P _ (d.rolls-FunctionOf None _ _) (s.function (if_missing (DeclaratorSpots P)) all.part))
        (along-leave from (next close) (along-next close all.behind))

    at-size : {h : ℕ} {size : Option Expr} {from rest : Input} → ReadsSize h size from rest → Along from → Perhaps (IfThere (ExprSpots P) size) rest
    at-size (g.size_none is) along = perhaps (if_missing (ExprSpots P)) along
    at-size (g.size_some one) along = let first = at-expr one along in perhaps (if_there (ExprSpots P) _ first.part) first.behind

    at-parameters : {h : ℕ} {xs : List Parameter} {dots : Bool} {from rest : Input} → ReadsParameters h xs dots from rest → Along from → Perhaps (Each (ParameterSpots P) xs) rest
    at-parameters (g.parameters_none is) along = perhaps (each_none (ParameterSpots P)) along
    at-parameters (g.parameters_some all) along = at-parameter_list all along

    at-parameter_list : {h : ℕ} {xs : List Parameter} {dots : Bool} {from rest : Input} → ReadsParameterList h xs dots from rest → Along from
        → Perhaps (Each (ParameterSpots P) xs) rest
    at-parameter_list (g.parameters_last one) along = let first = at-parameter one along in perhaps (each_one (ParameterSpots P) _ first.part) first.behind
    at-parameter_list (g.parameters_dots {rest = rest} one is so) along =
        let first = at-parameter one along in perhaps (each_one (ParameterSpots P) _ first.part) (along-next (next rest) (along-next rest first.behind))
    at-parameter_list (g.parameters_more {mid = mid} one is others) along =
        let first = at-parameter one along in
        let all = at-parameter_list others (along-next mid first.behind) in
        perhaps (each_more (ParameterSpots P) _ _ first.part all.part) all.behind

    at-parameter : {h : ℕ} {one : Parameter} {from rest : Input} → ReadsParameter h one from rest → Along from → Perhaps (ParameterSpots P one) rest
    at-parameter (g.parameter_plain list) along =
        let first = at-specifiers list along in perhaps (parameter_at P _ _ _ None first.front first.part (if_missing (DeclaratorSpots P))) first.behind
    at-parameter (g.parameter_declared {typedef = typedef} {head = head} {rest = rest} list inner) along =
        let first = at-specifiers list along in
        let second = at-declarator inner first.behind in
        perhaps (parameter_at P _ _ _ _ first.front first.part (if_there (DeclaratorSpots P) _ second.part)) (along-head head typedef rest second.behind)
