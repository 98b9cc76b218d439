-- The readers of declarators and of what holds them read each of them.
use Rattle.std.proofs.Common.{◌≡◌, inl, ℕ, zero, suc, ◌+◌, ◌-◌, ◌≤◌, min, max, Bool, true, false, not, ◌&&◌, ◌||◌, List, [], ◌∷◌, ◌++◌, Option, Some, None, Ok, refl, sym, ap, ◌∙◌, append_assoc, append-nil, arith}
use Rattle.lk_lex.specs.declared.token.TokenKind.{TokenKind}
use Rattle.lk_lex.specs.declared.token.TokenKind.TheVariants as k
use Rattle.lk_lex.specs.declared.punct.Punct.TheVariants as p
use Rattle.lk_tree.specs.declared.specifiers.Qualifier.{Qualifier}
use Rattle.lk_tree.specs.declared.expression.Expr.{Expr}
use Rattle.lk_tree.specs.declared.expression.TypeName.{TypeName}
use Rattle.lk_tree.specs.declared.expression.Member.{Member}
use Rattle.lk_tree.specs.declared.expression.MemberDeclarator.{MemberDeclarator}
use Rattle.lk_tree.specs.declared.expression.Item.{Item}
use Rattle.lk_tree.specs.declared.expression.Declarator.{Declarator}
use Rattle.lk_tree.specs.declared.expression.DeclaratorForm.TheVariants as form
use Rattle.lk_tree.specs.declared.expression.Parameter.{Parameter}
use Rattle.lk_parse_expr.specs.declared.found.Found.{Found}
use Rattle.lk_parse_expr.specs.declared.naming.Naming.{Naming}
use Rattle.lk_parse_expr.specs.declared.naming.Naming.TheVariants as naming
use Rattle.lk_parse_expr.specs.declared.naming.Head.{Head}
use Rattle.lk_parse_expr.specs.declared.naming.Head.TheVariants as head
use Rattle.lk_parse_expr.specs.Input.{Input, peek, here, next, text, declare, leave, declared_since}
use Rattle.lk_parse_expr.specs.Words.{qualifier_of, is_word, continues_specifiers, opens_parameters}
use Rattle.lk_parse_expr.specs.Heads.{may_omit, is_group, other, called, declare_head}
use Rattle.lk_parse_expr.specs.Readers.{same_punct, Parser, and_then, ◌>>◌, ◌>>=◌, need, take, expect, found, left, sees, goes_on, is_punct}
use Rattle.lk_parse_expr.specs.Grammar as g
use Rattle.lk_parse_expr.specs.Grammar.{ReadsQualifiers, ReadsExpr, ReadsSpecifiers, ReadsTypeName, ReadsMember, ReadsMemberDeclarators, ReadsMemberDeclarator, ReadsItem, ReadsDeclarator, ReadsSize, ReadsParameters, ReadsParameterList, ReadsParameter, declarator_at, item_at}
use Rattle.lk_parse_expr.specs.Reading.{Readers, qualifiers, qualifiers_from, begins_declarator, dots, is_ellipsis, type_name_from, parameter_from, parameter, parameters, width, field, member_from, value, item_from, size, array_of, function_of, grown_from, parts, need_inside, group, star_of, star, direct, declarator}
use Rattle.lk_parse_expr.proofs.Steps.{Answers, fits, and_so, around, needs, expects, reads_word, as_deep, seen, sees-same}
use Rattle.lk_parse_expr.proofs.Tables.{stops, stops_end, stops_comma, stops_more, bracket}
use Rattle.lk_parse_expr.proofs.Tables as Tables
use Rattle.lk_parse_expr.proofs.Left.{left-next, left-took, left-size, left-parameters, left-parameter, left-field, left-leave}
use Rattle.lk_parse_expr.proofs.Firsts.{positive, unseen, no_comma}
use Rattle.lk_parse_expr.proofs.Loops.{Reaches, begins, goes, ends}
use Rattle.lk_parse_expr.proofs.Lists.{Row, row_last, row_more, Items, separated_read}
use Rattle.lk_parse_expr.proofs.Good.{Good, ends_declarator}
use Rattle.lk_parse_expr.proofs.Specifying.{specifiers_read, specifiers_begin, begun, no_punct, declarator_one}

three : (a b c : Bool) → (a && not b) && c ≡ true → (a ≡ true) × (b ≡ false) × (c ≡ true)
three true false true e = (refl, refl, refl)
three true false false e = absurd cc
three true true c e = absurd cc
three false b c e = absurd cc

pub equal_goes_on : (i : Input) → stops 1 (peek i) ≡ true → sees p.Equal i ≡ false
unfolding stops
equal_goes_on i stop = by (sees p.Equal i) refl
  where
    by : (b : Bool) → sees p.Equal i ≡ b → sees p.Equal i ≡ false
    by true f = let g : stops 1 (peek i) ≡ false = rw (seen p.Equal i f) refl in absurd cc
    by false f = f

-- ---- qualifiers

some_qualifier : (i : Input) {one : Qualifier} → qualifier_of (peek i) ≡ Some one → left (next i) + 1 ≡ left i
some_qualifier i is = left-took i (λ end. let f : qualifier_of (peek i) ≡ None = rw end refl in absurd cc)

qualifiers_on : (n : ℕ) (before : List Qualifier) {list : List Qualifier} {from rest : Input} → ReadsQualifiers list from rest → left from ≤ n → qualifiers_from n before from ≡ Ok (before ++ list, rest)
unfolding qualifiers_from
qualifiers_on zero before {from = from} (g.qualifiers_none is) enough = ap (λ list. Ok (list, from)) (sym (append-nil before))
qualifiers_on (suc n) before {from = from} (g.qualifiers_none is) enough = rw is (ap (λ list. Ok (list, from)) (sym (append-nil before)))
qualifiers_on zero before {from = from} (g.qualifiers_more is others) enough = absurd (omega (arith, some_qualifier from is))
qualifiers_on (suc n) before {from = from} (g.qualifiers_more {first} {others = list} {rest = rest} is others) enough =
    rw is (qualifiers_on n (before ++ first ∷ []) others (omega (arith, some_qualifier from is)) ∙ ap (λ list. Ok (list, rest)) (append_assoc before (first ∷ []) list))

qualifiers_read : {list : List Qualifier} {from rest : Input} → ReadsQualifiers list from rest → qualifiers from ≡ Ok (list, rest)
unfolding qualifiers
qualifiers_read {from = from} list = qualifiers_on (left from) [] list (omega arith)

-- ---- what a declarator begins with, and what ends it

pub declarator_begins : {n : Naming} {level h : ℕ} {one : Declarator} {head : Head} {from rest : Input} → ReadsDeclarator n level h one head from rest → begins_declarator n from ≡ true
unfolding sees same_punct
declarator_begins (g.star l is list inner) = rw is refl
declarator_begins (g.star_alone l may is list) = rw is refl
declarator_begins (g.named l may is) = rw (is, may) refl
declarator_begins (g.group l is may inner so) = rw is refl
declarator_begins (g.array l inner is size so) = declarator_begins inner
declarator_begins (g.array_alone l may is size so) = rw (is, may) refl
declarator_begins (g.function l inner is list so) = declarator_begins inner
declarator_begins (g.function_alone l may is opens list so) = rw is refl

no_star : {n : Naming} {level h : ℕ} {one : Declarator} {head : Head} {from rest : Input} → ReadsDeclarator n level h one head from rest → 1 ≤ level → sees p.Star from ≡ false
unfolding sees same_punct
no_star (g.star l is list inner) high = absurd (omega arith)
no_star (g.star_alone l may is list) high = absurd (omega arith)
no_star (g.named l may is) high = rw is refl
no_star (g.group l is may inner so) high = rw is refl
no_star (g.array l inner is size so) high = no_star inner (omega arith)
no_star (g.array_alone l may is size so) high = rw is refl
no_star (g.function l inner is list so) high = no_star inner (omega arith)
no_star (g.function_alone l may is opens list so) high = rw is refl

record NoDeclarator (kind : TokenKind) : Type 0 where
  star : is_punct p.Star kind ≡ false
  paren : is_punct p.OpenParen kind ≡ false
  word : is_word kind ≡ false
  bracket : is_punct p.OpenBracket kind ≡ false

none_of : (a b c d : Bool) → not ((a || b) || (c || d)) ≡ true → (a ≡ false) × (b ≡ false) × (c ≡ false) × (d ≡ false)
none_of false false false false e = (refl, refl, refl, refl)
none_of true b c d e = absurd cc
none_of false true c d e = absurd cc
none_of false false true d e = absurd cc
none_of false false false true e = absurd cc

no_declarator : (kind : TokenKind) → ends_declarator kind ≡ true → NoDeclarator kind
no_declarator kind e = let f = none_of (is_punct p.Star kind) (is_punct p.OpenParen kind) (is_word kind) (is_punct p.OpenBracket kind) e in
    record { star = f.0; paren = f.1; word = f.2; bracket = f.3 }

ended : (n : Naming) (i : Input) → ends_declarator (peek i) ≡ true → begins_declarator n i ≡ false
unfolding sees
ended n i e = let f = no_declarator (peek i) e in rw (f.star, f.paren, f.word, f.bracket) refl

peek-declare : (name : List ℕ) (typedef : Bool) (i : Input) → peek (declare name typedef i) ≡ peek i
unfolding peek declare
peek-declare name typedef i = refl

pub peek-head : (h : Head) (typedef : Bool) (i : Input) → peek (declare_head h typedef i) ≡ peek i
peek-head head.Abstract typedef i = refl
peek-head (head.Bare name) typedef i = peek-declare name typedef i
peek-head (head.Function name list) typedef i = peek-declare name typedef i
peek-head (head.Other name) typedef i = peek-declare name typedef i

parameter_begins : {h : ℕ} {one : Parameter} {from rest : Input} → ReadsParameter h one from rest → continues_specifiers false from ≡ true
parameter_begins (g.parameter_plain list) = specifiers_begin list
parameter_begins (g.parameter_declared list inner) = specifiers_begin list

parameters_begin : {h : ℕ} {list : List Parameter} {dots : Bool} {from rest : Input} → ReadsParameterList h list dots from rest → continues_specifiers false from ≡ true
parameters_begin (g.parameters_last one) = parameter_begins one
parameters_begin (g.parameters_dots one is so) = parameter_begins one
parameters_begin (g.parameters_more one is others) = parameter_begins one

no_ellipsis : (i : Input) → continues_specifiers false i ≡ true → is_ellipsis (peek i) ≡ false
unfolding continues_specifiers
no_ellipsis i e = by (peek i) refl
  where
    by : (kind : TokenKind) → peek i ≡ kind → is_ellipsis kind ≡ false
    by (k.Punct p.Ellipsis) f = let g : continues_specifiers false i ≡ false = rw f refl in absurd cc
    by _ f = refl

-- how parameters end
record ParametersEnd (h : ℕ) (list : List Parameter) (dotted : Bool) (from rest : Input) : Type 0 where
  mid : Input
  row : Row ReadsParameter h list from mid
  follow : ends_declarator (peek mid) ≡ true
  stop : goes_on is_ellipsis mid ≡ false
  end : dots mid ≡ Ok (dotted, rest)

parameters_end : {h : ℕ} {list : List Parameter} {dotted : Bool} {from rest : Input} → ReadsParameterList h list dotted from rest → peek rest ≡ k.Punct p.CloseParen
    → ParametersEnd h list dotted from rest
unfolding goes_on dots sees same_punct expect
parameters_end (g.parameters_last {rest = rest} one) close = record { mid = rest; row = row_last one; follow = rw close refl; stop = rw close refl; end = rw close refl }
parameters_end (g.parameters_dots {rest = mid} one is so) close = record { mid = mid; row = row_last one; follow = rw is refl; stop = rw (is, so) refl; end = rw (is, so) refl }
parameters_end (g.parameters_more one is others) close =
    let e = parameters_end others close in record { mid = e.mid; row = row_more one is e.row; follow = e.follow; stop = e.stop; end = e.end }

fields_row : {h : ℕ} {list : List MemberDeclarator} {from rest : Input} → ReadsMemberDeclarators h list from rest → Row ReadsMemberDeclarator h list from rest
fields_row (g.fields_last one) = row_last one
fields_row (g.fields_more one is others) = row_more one is (fields_row others)

-- a declarator takes a token
pub some_declarator : {n : Naming} {level h : ℕ} {one : Declarator} {head : Head} {from rest : Input} → ReadsDeclarator n level h one head from rest → 1 ≤ left from
unfolding sees same_punct
some_declarator {n} {from = from} is = omega (arith, left-took from (λ end. let f : begins_declarator n from ≡ false = rw end refl in let s = declarator_begins is in absurd cc))

field_some : {h : ℕ} {one : MemberDeclarator} {from rest : Input} → ReadsMemberDeclarator h one from rest → 1 ≤ left from
field_some (g.field_plain inner) = some_declarator inner
field_some (g.field_width inner is width) = some_declarator inner
field_some (g.field_unnamed {from = from} is width) = omega (arith, left-took from (λ end. cc))

no_colon : (n : Naming) (i : Input) → begins_declarator n i ≡ true → sees p.Colon i ≡ false
unfolding sees same_punct
no_colon n i e = by (sees p.Colon i) refl
  where
    by : (b : Bool) → sees p.Colon i ≡ b → sees p.Colon i ≡ false
    by true f = let g : begins_declarator n i ≡ false = rw (seen p.Colon i f) refl in absurd cc
    by false f = f

module _ (m : ℕ) (below : Readers) (good : Good m below) where
  -- ---- type names, parameters, members and items

  pub type_name_read : {h : ℕ} {name : TypeName} {from rest : Input} → ReadsTypeName h name from rest → peek rest ≡ k.Punct p.CloseParen
      → Answers (suc m) h name rest (type_name_from m below (here from) from)
  unfolding type_name_from same_punct
  type_name_read (g.name_plain {rest = rest} list) close =
      around (and_so _ (specifiers_read m below good list) (omega arith) (λ room same. rw (ended naming.Abstract rest (rw close refl)) (fits room same refl)))
  type_name_read (g.name_declared {rest = rest} list inner) close =
      around (and_so _ (specifiers_read m below good list) (omega arith) (λ room same. rw (declarator_begins inner)
      (and_so _ (good.declarator inner (rw close refl)) (omega arith) (λ more also. fits (min room more) (omega arith) refl))))

  parameter_read : {h : ℕ} {one : Parameter} {from rest : Input} → ReadsParameter h one from rest → ends_declarator (peek rest) ≡ true → Answers m h one rest (parameter m below from)
  unfolding parameter_from
  parameter_read (g.parameter_plain {rest = rest} list) end =
      and_so _ (specifiers_read m below good list) (omega arith) (λ room same. rw (ended naming.Either rest end) (fits room same refl))
  parameter_read (g.parameter_declared {typedef = typedef} {head = head} {rest = rest} list inner) end =
      and_so _ (specifiers_read m below good list) (omega arith) (λ room same. rw (declarator_begins inner)
      (and_so _ (good.declarator inner (ap ends_declarator (sym (peek-head head typedef rest)) ∙ end)) (omega arith) (λ more also. fits (min room more) (omega arith) refl)))

  each_parameter : Items m ReadsParameter is_ellipsis ends_declarator (parameter m below)
  unfolding same_punct
  each_parameter = record {
    reads = parameter_read;
    comma = refl;
    begins = λ {from = from} one. no_ellipsis from (parameter_begins one);
    some = λ {from = from} one. begun false from (parameter_begins one);
    behind = left-parameter;
  }

  parameters_read : {h : ℕ} {list : List Parameter} {dotted : Bool} {from close : Input} → ReadsParameters h list dotted from close → peek close ≡ k.Punct p.CloseParen
      → Answers m h (list, dotted) close (parameters m below from)
  unfolding parameters
  parameters_read {from = from} (g.parameters_none is) so = rw (sees-same p.CloseParen from is) (fits m (omega arith) refl)
  parameters_read {from = from} (g.parameters_some list) so =
      let e = parameters_end list so in
      rw (no_punct false p.CloseParen from (parameters_begin list)) (and_so _ (separated_read each_parameter e.row e.follow e.stop) (omega arith) (λ room same. rw e.end (fits room same refl)))

  width_read : {h : ℕ} {tree : Expr} (i : Input) {rest : Input} → peek i ≡ k.Punct p.Colon → ReadsExpr 2 h tree (next i) rest → stops 1 (peek rest) ≡ true → Answers m h tree rest (width m below i)
  unfolding width
  width_read i {rest} is tree stop = expects i _ is (good.expr tree (stops_more 1 2 (peek rest) stop (inl (omega arith))))

  abbrev ends_field : TokenKind → Bool
  ends_field kind = (ends_declarator kind && not (is_punct p.Colon kind)) && stops 1 kind

  field_read : {h : ℕ} {one : MemberDeclarator} {from rest : Input} → ReadsMemberDeclarator h one from rest → ends_field (peek rest) ≡ true → Answers m h one rest (field m below from)
  unfolding field sees same_punct
  field_read (g.field_plain {from = from} {rest} inner) end =
      let parts = three (ends_declarator (peek rest)) (is_punct p.Colon (peek rest)) (stops 1 (peek rest)) end in
      rw (no_colon naming.Named from (declarator_begins inner)) (and_so _ (good.declarator inner parts.0) (omega arith) (λ room same. rw parts.1 (fits room same refl)))
  field_read (g.field_width {from = from} {mid} {rest} inner is tree) end =
      let parts = three (ends_declarator (peek rest)) (is_punct p.Colon (peek rest)) (stops 1 (peek rest)) end in
      rw (no_colon naming.Named from (declarator_begins inner)) (and_so _ (good.declarator inner (rw is refl)) (omega arith) (λ room same.
      rw is (and_so _ (width_read mid is tree parts.2) (omega arith) (λ more also. fits (min room more) (omega arith) refl))))
  field_read (g.field_unnamed {from = from} {rest} is tree) end =
      let parts = three (ends_declarator (peek rest)) (is_punct p.Colon (peek rest)) (stops 1 (peek rest)) end in
      rw is (and_so _ (width_read from is tree parts.2) (omega arith) (λ room same. fits room same refl))

  each_field : Items m ReadsMemberDeclarator (λ _. false) ends_field (field m below)
  unfolding same_punct
  each_field = record {
    reads = field_read;
    comma = rw (stops_comma 1 (k.Punct p.Comma) (omega arith) refl) refl;
    begins = λ one. refl;
    some = field_some;
    behind = left-field;
  }

  pub member_read : {h : ℕ} {one : Member} {from rest : Input} → ReadsMember h one from rest → Answers (suc m) h one rest (member_from m below (here from) from)
  unfolding member_from same_punct
  member_read (g.member_one {rest = rest} list fields is) =
      around (and_so _ (specifiers_read m below good list) (omega arith) (λ room same.
      and_so _ (separated_read each_field (fields_row fields) (rw (stops_end 1 (peek rest) Tables.semicolon is, is) refl) (no_comma (λ _. false) rest p.Semicolon is refl)) (omega arith) (λ more also.
      expects rest _ is (fits (min room more) (omega arith) refl))))

  value_none : (i : Input) → stops 1 (peek i) ≡ true → Answers m 0 None i (value m below i)
  unfolding value
  value_none i stop = rw (equal_goes_on i stop) (fits m (omega arith) refl)

  value_some : {h : ℕ} {tree : Expr} (i : Input) {rest : Input} → peek i ≡ k.Punct p.Equal → ReadsExpr 2 h tree (next i) rest → stops 1 (peek rest) ≡ true
      → Answers m h (Some tree) rest (value m below i)
  unfolding value
  value_some i {rest} is tree stop = rw (sees-same p.Equal i is) (needs 1 i _ (positive tree) (λ some.
      and_so _ (good.expr tree (stops_more 1 2 (peek rest) stop (inl (omega arith)))) (omega arith) (λ room same. fits room same refl)))

  pub item_read : {h : ℕ} {one : Item} {from rest : Input} → ReadsItem h one from rest → stops 1 (peek rest) ≡ true → Answers (suc m) h one rest (item_from m below (here from) from)
  unfolding item_from
  item_read (g.item_plain {from = from} is) stop =
      around {h = 0} (reads_word from _ is (and_so _ (value_none (next from) (ap (stops 1) (sym (peek-declare (text from) false (next from))) ∙ stop)) (omega arith) (λ room same. fits room same refl)))
  item_read (g.item_valued {from = from} {rest} is so tree) stop =
      around (reads_word from _ is (and_so _ (value_some (next from) so tree (ap (stops 1) (sym (peek-declare (text from) false rest)) ∙ stop)) (omega arith) (λ room same. fits room same refl)))

  -- ---- declarators

  size_read : {h : ℕ} {one : Option Expr} {from close : Input} → ReadsSize h one from close → peek close ≡ k.Punct p.CloseBracket → Answers m h one close (size m below from)
  unfolding size
  size_read {from = from} (g.size_none is) so = rw (sees-same p.CloseBracket from is) (fits m (omega arith) refl)
  size_read {from = from} {close} (g.size_some tree) so =
      rw (unseen p.CloseBracket tree refl) (and_so _ (good.expr tree (stops_end 1 (peek close) bracket so)) (omega arith) (λ room same. fits room same refl))

  array_of_read : (d : ℕ) {h : ℕ} (from : Input) (inner : Option Declarator) (head : Head) (room : ℕ) (i : Input) {one : Option Expr} {close : Input} → d + room ≡ m → ReadsSize h one i close
      → peek close ≡ k.Punct p.CloseBracket → Answers m (max d h) (declarator_at from (form.ArrayOf inner one), other head) (next close) (array_of m below (here from) inner head room i)
  unfolding array_of
  array_of_read d from inner head room i {close = close} same one so =
      and_so _ (size_read one so) (omega arith) (λ more also. expects close _ so (fits (min room more) (omega arith) refl))

  function_of_read : (d : ℕ) {h : ℕ} (from : Input) (inner : Option Declarator) (head : Head) (room : ℕ) (i : Input) {list : List Parameter} {dotted : Bool} {close : Input} → d + room ≡ m
      → ReadsParameters h list dotted (next i) close → peek close ≡ k.Punct p.CloseParen
      → Answers m (max d h) (declarator_at from (form.FunctionOf inner list dotted), called (declared_since i close) head) (leave i (next close)) (function_of m below (here from) inner head room (next i))
  unfolding function_of declared_since leave next
  function_of_read d from inner head room i {close = close} same list so =
      and_so _ (parameters_read list so) (omega arith) (λ more also. expects close _ so (fits (min room more) (omega arith) refl))

  abbrev Grown : ℕ → Declarator × Head → Naming → Input → Input → Type 0
  Grown h tree n from rest = Reaches m h tree rest (grown_from m below (here from)) (and_then (direct m below n (here from) from) (parts m below (here from)))

  direct_reached : (n : Naming) {h : ℕ} {tree : Declarator × Head} (from : Input) {rest : Input} → Answers (suc m) h tree rest (direct m below n (here from) from) → Grown h tree n from rest
  unfolding parts
  direct_reached n from a = begins (grown_from m below (here from)) a

  needs_inside : {h : ℕ} {tree : Declarator × Head} {rest : Input} (n : Naming) (i : Input) (q : Parser (Found (Declarator × Head))) → 1 ≤ h → Answers m h tree rest (q i)
      → Answers m h tree rest ((need_inside m below n >> q) i)
  needs_inside naming.Named i q some a = needs 1 i q some (λ enough. a)
  needs_inside naming.Abstract i q some a = a
  needs_inside naming.Either i q some a = a

  group_read : {n : Naming} {h : ℕ} {inner : Declarator} {head : Head} (from : Input) {close : Input} → ReadsDeclarator n 0 h inner head (next from) close → peek close ≡ k.Punct p.CloseParen
      → Answers (suc m) (1 + h) (declarator_at from (form.Group inner), head) (next close) (group m below n (here from) from)
  unfolding group same_punct
  group_read {n} from {close} inner so =
      around (needs_inside n from _ (declarator_one inner) (and_so _ (good.declarator inner (rw so refl)) (omega arith) (λ room same. expects close _ so (fits room same refl))))

  no_group : (n : Naming) (i : Input) → may_omit n ≡ true → opens_parameters i ≡ true → is_group n i ≡ false
  no_group naming.Named i may opens = absurd cc
  no_group naming.Abstract i may opens = rw opens refl
  no_group naming.Either i may opens = rw opens refl

  grown_array : (a : Declarator × Head) (from mid : Input) → peek mid ≡ k.Punct p.OpenBracket → (n room : ℕ)
      → grown_from m below (here from) (suc n) (found a room) mid ≡ (need 1 room >> take >> (array_of m below (here from) (Some a.0) a.1 (room - 1) >>= grown_from m below (here from) n)) mid
  unfolding grown_from
  grown_array a from mid is n room = rw (sees-same p.OpenBracket mid is) refl

  grown_function : (a : Declarator × Head) (from mid : Input) → peek mid ≡ k.Punct p.OpenParen → (n room : ℕ)
      → grown_from m below (here from) (suc n) (found a room) mid ≡ (need 1 room >> take >> (function_of m below (here from) (Some a.0) a.1 (room - 1) >>= grown_from m below (here from) n)) mid
  unfolding grown_from sees same_punct
  grown_function a from mid is n room = rw is refl

  declarator_reached : {n : Naming} {level h : ℕ} {one : Declarator} {head : Head} {from rest : Input} → ReadsDeclarator n level h one head from rest → 1 ≤ level → Grown h (one, head) n from rest
  unfolding direct sees same_punct
  declarator_reached (g.star l is list inner) high = absurd (omega arith)
  declarator_reached (g.star_alone l may is list) high = absurd (omega arith)
  declarator_reached (g.named {n} {from = from} l may is) high = direct_reached n from (rw (is, may) (around {h = 0} (reads_word from _ is (fits m (omega arith) refl))))
  declarator_reached (g.group {n} {from = from} l is may inner so) high = direct_reached n from (rw (is, may) (group_read from inner so))
  declarator_reached (g.array {n} {inner = a} {head} {from = from} {mid} {close} l inner is one so) high =
      goes {loop = grown_from m below (here from)} (λ before. array_of m below (here from) (Some before.tree.0) before.tree.1 (before.room - 1)) (grown_array (a, head) from mid is)
      (left-took mid (λ end. cc)) (omega (arith, left-next close, left-size one)) (omega arith)
      (λ room same. array_of_read _ from (Some a) head (room - 1) (next mid) same one so) (declarator_reached inner (omega arith))
  declarator_reached (g.array_alone {n} {from = from} l may is one so) high =
      direct_reached n from (rw (is, may) (around (as_deep (omega arith) (array_of_read 0 from None head.Abstract m (next from) (omega arith) one so))))
  declarator_reached (g.function {n} {inner = a} {head} {from = from} {mid} {close} l inner is list so) high =
      goes {loop = grown_from m below (here from)} (λ before. function_of m below (here from) (Some before.tree.0) before.tree.1 (before.room - 1)) (grown_function (a, head) from mid is)
      (left-took mid (λ end. cc)) (omega (arith, left-next close, left-parameters list, left-leave mid (next close))) (omega arith)
      (λ room same. function_of_read _ from (Some a) head (room - 1) mid same list so) (declarator_reached inner (omega arith))
  declarator_reached (g.function_alone {n} {from = from} l may is opens list so) high =
      direct_reached n from (rw (is, no_group n (next from) may opens) (around (as_deep (omega arith) (function_of_read 0 from None head.Abstract m from (omega arith) list so))))

  grown_end : (tree : Declarator × Head) (from rest : Input) (n room : ℕ) → NoDeclarator (peek rest) → grown_from m below (here from) n (found tree room) rest ≡ Ok (found tree room, rest)
  unfolding grown_from sees
  grown_end tree from rest zero room none = refl
  grown_end tree from rest (suc n) room none = rw (none.bracket, none.paren) refl

  direct_read : {n : Naming} {h : ℕ} {one : Declarator} {head : Head} {from rest : Input} → ReadsDeclarator n 1 h one head from rest → ends_declarator (peek rest) ≡ true
      → Answers (suc m) h (one, head) rest (declarator m below n (here from) from)
  unfolding declarator
  direct_read {n} {one = one} {head} {from} {rest} is end =
      rw (no_star is (omega arith)) (ends (λ count room. grown_end (one, head) from rest count room (no_declarator (peek rest) end)) (declarator_reached is (omega arith)))

  pub declarator_read : {n : Naming} {h : ℕ} {one : Declarator} {head : Head} {from rest : Input} → ReadsDeclarator n 0 h one head from rest → ends_declarator (peek rest) ≡ true
      → Answers (suc m) h (one, head) rest (declarator m below n (here from) from)
  unfolding declarator star star_of
  declarator_read (g.star {n} {from = from} l is list inner) end =
      rw (sees-same p.Star from is) (around (needs_inside n from _ (declarator_one inner) (rw (qualifiers_read list, declarator_begins inner)
      (and_so _ (good.declarator inner end) (omega arith) (λ room same. fits room same refl)))))
  declarator_read (g.star_alone {n = naming.Named} l may is list) end = absurd cc
  declarator_read (g.star_alone {n = naming.Abstract} {from = from} {rest} l may is list) end =
      rw (sees-same p.Star from is) (around {h = 0} (rw (qualifiers_read list, ended naming.Abstract rest end) (fits m (omega arith) refl)))
  declarator_read (g.star_alone {n = naming.Either} {from = from} {rest} l may is list) end =
      rw (sees-same p.Star from is) (around {h = 0} (rw (qualifiers_read list, ended naming.Either rest end) (fits m (omega arith) refl)))
  declarator_read (g.named l may is) end = direct_read (g.named (omega arith) may is) end
  declarator_read (g.group l is may inner so) end = direct_read (g.group (omega arith) is may inner so) end
  declarator_read (g.array l inner is one so) end = direct_read (g.array (omega arith) inner is one so) end
  declarator_read (g.array_alone l may is one so) end = direct_read (g.array_alone (omega arith) may is one so) end
  declarator_read (g.function l inner is list so) end = direct_read (g.function (omega arith) inner is list so) end
  declarator_read (g.function_alone l may is opens list so) end = direct_read (g.function_alone (omega arith) may is opens list so) end
