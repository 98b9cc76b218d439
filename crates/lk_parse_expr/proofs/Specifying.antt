-- The readers of specifiers, type names, members, items and parameters read each of them.
use Rattle.std.proofs.Common.{◌≡◌, ℕ, zero, suc, ◌+◌, ◌≤◌, min, max, Bool, true, false, ◌||◌, List, [], ◌∷◌, ◌++◌, Option, Some, None, is_some, Ok, refl, ap, subst, append_assoc, arith}
use Rattle.lk_lex.specs.declared.token.TokenKind.{TokenKind}
use Rattle.lk_lex.specs.declared.token.TokenKind.TheVariants as k
use Rattle.lk_lex.specs.declared.punct.Punct.TheVariants as p
use Rattle.lk_lex.specs.declared.keyword.Keyword.TheVariants as w
use Rattle.lk_tree.specs.declared.expression.Specifier.{Specifier}
use Rattle.lk_tree.specs.declared.expression.Specifier.TheVariants as s
use Rattle.lk_tree.specs.declared.expression.Member.{Member}
use Rattle.lk_tree.specs.declared.expression.MemberDeclarator.{MemberDeclarator}
use Rattle.lk_tree.specs.declared.expression.Item.{Item}
use Rattle.lk_parse_expr.specs.declared.found.Found.{Found}
use Rattle.lk_parse_expr.specs.declared.naming.Naming.{Naming}
use Rattle.lk_tree.specs.declared.expression.Declarator.{Declarator}
use Rattle.lk_lex.specs.declared.punct.Punct.{Punct}
use Rattle.lk_parse_expr.specs.declared.naming.Head.{Head}
use Rattle.lk_parse_expr.specs.Input.{Input, peek, next, text}
use Rattle.lk_parse_expr.specs.Words.{specifier_of, is_specifier_word, is_open_brace, is_close_brace, continues_specifiers}
use Rattle.lk_parse_expr.specs.Readers.{pure, same_keyword, same_punct, Outcome, and_then, ◌>>=◌, found, joined, left, sees, sees_key, goes_on, is_punct, is_key, repeat}
use Rattle.lk_parse_expr.specs.Grammar as g
use Rattle.lk_parse_expr.specs.Grammar.{ReadsSpecifiers, ReadsSpecifier, ReadsTag, ReadsMembers, ReadsMember, ReadsMemberDeclarators, ReadsMemberDeclarator, ReadsItems, ReadsItem, ReadsParameters, ReadsParameterList, ReadsParameter, ReadsTypeName, ReadsDeclarator}
use Rattle.lk_parse_expr.specs.Reading.{Readers, tag, struct_by, struct_body, enum_by, enum_body, comma_if_any, struct_end, specifier, as_type, specifiers_from, specifiers}
use Rattle.lk_parse_expr.proofs.Steps.{Answers, fits, and_so, needs, expects, reads_word, as_deep, seen, sees-same}
use Rattle.lk_parse_expr.proofs.Tables.{stops, stops_end, brace, stops_comma}
use Rattle.lk_parse_expr.proofs.Left.{left-next, left-took, left-item, left-tag, left-specifiers, left-fields, left-members, left-items}
use Rattle.lk_parse_expr.proofs.Firsts.{positive}
use Rattle.lk_parse_expr.proofs.Lists.{Row, row_last, row_more, Items, separated_read, Run, run_none, run_more, Members, repeat_read}
use Rattle.lk_parse_expr.proofs.Good.{Good}

-- a keyword that is a specifier by itself begins neither a struct nor an enum
keyword_alone : (kind : TokenKind) (one : Specifier) → specifier_of kind ≡ Some one → (is_key w.Struct kind ≡ false) × (is_key w.Enum kind ≡ false)
unfolding same_keyword
keyword_alone (k.Key w.Struct) one e = absurd cc
keyword_alone (k.Key w.Enum) one e = absurd cc
keyword_alone _ one e = (refl, refl)

keyword_begins : (kind : TokenKind) (one : Specifier) → specifier_of kind ≡ Some one → is_specifier_word kind ≡ true
keyword_begins (k.Key w.Struct) one e = absurd cc
keyword_begins (k.Key w.Enum) one e = absurd cc
keyword_begins kind one e = ap is_some e

tag_read : {name : Option (List ℕ)} {from rest : Input} → ReadsTag name from rest → tag from ≡ Ok (name, rest)
unfolding tag
tag_read (g.tag_none is) = rw is refl
tag_read (g.tag_some is) = rw is refl

-- what a specifier begins with
specifier_begins : {typed after typedef : Bool} {h : ℕ} {one : Specifier} {from rest : Input} → ReadsSpecifier typed after h typedef one from rest → continues_specifiers typed from ≡ true
unfolding continues_specifiers
specifier_begins (g.spec_keyword {from = from} one is) = rw (keyword_begins (peek from) one is) refl
specifier_begins (g.spec_name is so) = rw (is, so) refl
specifier_begins (g.spec_struct_tag is so shut) = rw is refl
specifier_begins (g.spec_struct is tag so list close) = rw is refl
specifier_begins (g.spec_enum_tag is so shut) = rw is refl
specifier_begins (g.spec_enum is tag so list close) = rw is refl

pub specifiers_begin : {typed typedef : Bool} {h : ℕ} {list : List Specifier} {from rest : Input} → ReadsSpecifiers typed h typedef list from rest → continues_specifiers typed from ≡ true
specifiers_begin (g.specifiers_last one is) = specifier_begins one
specifiers_begin (g.specifiers_more one others) = specifier_begins one

-- where specifiers begin there is a token
pub begun : (typed : Bool) (i : Input) → continues_specifiers typed i ≡ true → 1 ≤ left i
unfolding continues_specifiers
begun typed i e = omega (arith, left-took i (λ end. let f : continues_specifiers typed i ≡ false = rw end refl in absurd cc))

unbraced : (kind : TokenKind) → is_open_brace kind ≡ false → is_punct p.OpenBrace kind ≡ false
unfolding same_punct
unbraced (k.Punct p.OpenBrace) e = absurd cc
unbraced _ e = refl

no_brace : (i : Input) → is_open_brace (peek i) ≡ false → sees p.OpenBrace i ≡ false
unfolding sees
no_brace i e = unbraced (peek i) e

-- where specifiers begin no punctuator is in front
pub no_punct : (typed : Bool) (q : Punct) (i : Input) → continues_specifiers typed i ≡ true → sees q i ≡ false
unfolding continues_specifiers
no_punct typed q i e = by (sees q i) refl
  where
    by : (b : Bool) → sees q i ≡ b → sees q i ≡ false
    by true f = let g : continues_specifiers typed i ≡ false = rw (seen q i f) refl in absurd cc
    by false f = f

pub declarator_one : {n : Naming} {level h : ℕ} {one : Declarator} {head : Head} {from rest : Input} → ReadsDeclarator n level h one head from rest → 1 ≤ h
declarator_one (g.star l is list inner) = omega arith
declarator_one (g.star_alone l may is list) = omega arith
declarator_one (g.named l may is) = omega arith
declarator_one (g.group l is may inner so) = omega arith
declarator_one (g.array l inner is size so) = omega arith
declarator_one (g.array_alone l may is size so) = omega arith
declarator_one (g.function l inner is list so) = omega arith
declarator_one (g.function_alone l may is opens list so) = omega arith

field_one : {h : ℕ} {one : MemberDeclarator} {from rest : Input} → ReadsMemberDeclarator h one from rest → 1 ≤ h
field_one (g.field_plain inner) = declarator_one inner
field_one (g.field_width inner is width) = omega (arith, declarator_one inner)
field_one (g.field_unnamed is width) = positive width

fields_one : {h : ℕ} {list : List MemberDeclarator} {from rest : Input} → ReadsMemberDeclarators h list from rest → 1 ≤ h
fields_one (g.fields_last one) = field_one one
fields_one (g.fields_more one is others) = omega (arith, field_one one)

pub item_one : {h : ℕ} {one : Item} {from rest : Input} → ReadsItem h one from rest → 1 ≤ h
item_one (g.item_plain is) = omega arith
item_one (g.item_valued is so value) = omega arith

pub member_two : {h : ℕ} {one : Member} {from rest : Input} → ReadsMember h one from rest → 2 ≤ h
member_two (g.member_one list fields is) = omega (arith, fields_one fields)

members_two : {h : ℕ} {list : List Member} {from rest : Input} → ReadsMembers h list from rest → 2 ≤ h
members_two (g.members_last one) = member_two one
members_two (g.members_more one others) = omega (arith, member_two one)

items_one : {h : ℕ} {list : List Item} {from rest : Input} → ReadsItems h list from rest → 1 ≤ h
items_one (g.items_last one) = item_one one
items_one (g.items_comma one is so) = item_one one
items_one (g.items_more one is others) = omega (arith, item_one one)

members_run : {h : ℕ} {list : List Member} {from rest : Input} → ReadsMembers h list from rest → Run ReadsMember h list from rest
members_run (g.members_last {h} {first = one} {from} {rest} first) = let e : max h 0 ≡ h = omega arith in subst (λ n. Run ReadsMember n (one ∷ []) from rest) e (run_more first run_none)
members_run (g.members_more one others) = run_more one (members_run others)

pub member_begins : {h : ℕ} {one : Member} {from rest : Input} → ReadsMember h one from rest → continues_specifiers false from ≡ true
member_begins (g.member_one list fields is) = specifiers_begin list

member_shorter : {h : ℕ} {one : Member} {from rest : Input} → ReadsMember h one from rest → left rest + 1 ≤ left from
member_shorter (g.member_one {rest = rest} list fields is) = omega (arith, left-took rest (λ end. cc), left-specifiers list, left-fields fields)

pub item_first : {h : ℕ} {one : Item} {from rest : Input} → ReadsItem h one from rest → peek from ≡ k.Word
item_first (g.item_plain is) = is
item_first (g.item_valued is so value) = is

-- how the items of an enumeration end
record ItemsEnd (h : ℕ) (list : List Item) (from rest : Input) : Type 0 where
  mid : Input
  row : Row ReadsItem h list from mid
  follow : stops 1 (peek mid) ≡ true
  stop : goes_on is_close_brace mid ≡ false
  comma : comma_if_any mid ≡ Ok (tt, rest)

items_end : {h : ℕ} {list : List Item} {from rest : Input} → ReadsItems h list from rest → peek rest ≡ k.Punct p.CloseBrace → ItemsEnd h list from rest
unfolding goes_on comma_if_any sees same_punct
items_end (g.items_last {from = from} {rest} one) close =
    record { mid = rest; row = row_last one; follow = stops_end 1 (peek rest) brace close; stop = rw close refl; comma = rw close refl }
items_end (g.items_comma {rest = mid} one is so) close =
    record { mid = mid; row = row_last one; follow = stops_comma 1 (peek mid) (omega arith) is; stop = rw (is, so) refl; comma = rw is refl }
items_end (g.items_more one is others) close =
    let e = items_end others close in record { mid = e.mid; row = row_more one is e.row; follow = e.follow; stop = e.stop; comma = e.comma }

pub specifier_shorter : {typed after typedef : Bool} {h : ℕ} {one : Specifier} {from rest : Input} → ReadsSpecifier typed after h typedef one from rest → left rest + 1 ≤ left from
specifier_shorter (g.spec_keyword {from = from} one is) = omega (arith, left-took from (λ end. let f : specifier_of (peek from) ≡ None = rw end refl in absurd cc))
specifier_shorter (g.spec_name {from = from} is so) = omega (arith, left-took from (λ end. cc))
specifier_shorter (g.spec_struct_tag {from = from} is so shut) = omega (arith, left-took from (λ end. cc), left-next (next from))
specifier_shorter (g.spec_struct {from = from} {brace = brace_} {close} is name so list ends) =
    omega (arith, left-took from (λ end. cc), left-tag name, left-next brace_, left-members list, left-next close)
specifier_shorter (g.spec_enum_tag {from = from} is so shut) = omega (arith, left-took from (λ end. cc), left-next (next from))
specifier_shorter (g.spec_enum {from = from} {brace = brace_} {close} is name so list ends) =
    omega (arith, left-took from (λ end. cc), left-tag name, left-next brace_, left-items list, left-next close)

pub or_assoc : (a b c : Bool) → (a || b) || c ≡ a || (b || c)
or_assoc true b c = refl
or_assoc false b c = refl

module _ (m : ℕ) (below : Readers) (good : Good m below) where
  -- ---- specifiers

  each_member : Members m ReadsMember (sees p.CloseBrace) below.member
  each_member = record { reads = good.member; begins = λ one. no_punct false p.CloseBrace _ (member_begins one); shorter = member_shorter }

  struct_read : {h : ℕ} {list : List Member} (name : Option (List ℕ)) (brace_ : Input) {close : Input} → peek brace_ ≡ k.Punct p.OpenBrace → ReadsMembers h list (next brace_) close
      → peek close ≡ k.Punct p.CloseBrace → Answers m h (s.Struct name list) (next close) (struct_body m below name brace_)
  unfolding struct_body
  struct_read name brace_ {close} so list ends =
      needs 2 brace_ _ (members_two list) (λ some. expects brace_ _ so (by list))
    where
      last : {h : ℕ} (list : List Member) (room : ℕ) → h + room ≡ m → Answers m h (s.Struct name list) (next close) (struct_end name (found list room) close)
      last list room same = expects close _ ends (fits room same refl)

      by : {h : ℕ} {list : List Member} {i : Input} → ReadsMembers h list i close
          → Answers m h (s.Struct name list) (next close) ((below.member >>= (λ first. repeat (sees p.CloseBrace) below.member (joined (found [] m) first)
          >>= struct_end name)) i)
      by (g.members_last {h} {first = one} first) = and_so _ (good.member first) (omega arith) (λ room same.
          as_deep (omega arith) (and_so _ (repeat_read each_member h (min m room) (one ∷ []) (omega arith) run_none (sees-same p.CloseBrace close ends)) (omega arith) (λ more also. last _ more also)))
      by (g.members_more {g} {h} {first = one} first others) = and_so _ (good.member first) (omega arith) (λ room same.
          and_so _ (repeat_read each_member g (min m room) (one ∷ []) (omega arith) (members_run others) (sees-same p.CloseBrace close ends)) (omega arith) (λ more also. last _ more also))

  each_item : Items m ReadsItem is_close_brace (stops 1) below.item
  each_item = record {
    reads = good.item;
    comma = stops_comma 1 (k.Punct p.Comma) (omega arith) refl;
    begins = λ one. rw (item_first one) refl;
    some = λ {from = from} one. let is = item_first one in omega (arith, left-took from (λ end. cc));
    behind = left-item;
  }

  enum_read : {h : ℕ} {list : List Item} (name : Option (List ℕ)) (brace_ : Input) {close : Input} → peek brace_ ≡ k.Punct p.OpenBrace → ReadsItems h list (next brace_) close
      → peek close ≡ k.Punct p.CloseBrace → Answers m h (s.Enum name list) (next close) (enum_body m below name brace_)
  unfolding enum_body
  enum_read name brace_ {close} so list ends =
      let e = items_end list ends in
      needs 1 brace_ _ (items_one list) (λ some. expects brace_ _ so (and_so _ (separated_read each_item e.row e.follow e.stop) (omega arith) (λ room same.
      rw e.comma (expects close _ ends (fits room same refl)))))

  -- what is a type by itself
  typed_read : {h : ℕ} {one : Specifier} {rest : Input} {o : Outcome (Found Specifier)} → Answers m h one rest o
      → Answers m h (one, true, false) rest (and_then o (λ one. pure (as_type one)))
  typed_read a = and_so _ a (omega arith) (λ room same. fits room same refl)

  specifier_read : {typed after typedef : Bool} {h : ℕ} {one : Specifier} {from rest : Input} → ReadsSpecifier typed after h typedef one from rest
      → Answers m h (one, after, typedef) rest (specifier m below typed from)
  unfolding specifier sees_key same_keyword
  specifier_read (g.spec_keyword {from = from} one is) = let alone = keyword_alone (peek from) one is in rw (alone.0, alone.1, is) (fits m (omega arith) refl)
  specifier_read (g.spec_name {from = from} is so) = rw is (reads_word from _ is (fits m (omega arith) refl))
  specifier_read (g.spec_struct_tag {from = from} is so shut) =
      rw (is, tag_read (g.tag_some so), no_brace (next (next from)) shut) (typed_read (fits m (omega arith) refl))
  specifier_read (g.spec_struct {from = from} {brace = brace_} is name so list close) = rw (is, tag_read name) (typed_read (by name so list close))
    where
      by : {h : ℕ} {name : Option (List ℕ)} {list : List Member} {i brace_ close : Input} → ReadsTag name i brace_ → peek brace_ ≡ k.Punct p.OpenBrace
          → ReadsMembers h list (next brace_) close → peek close ≡ k.Punct p.CloseBrace → Answers m h (s.Struct name list) (next close) (struct_by m below name brace_)
      by (g.tag_none {from = i} is) so list close = rw (sees-same p.OpenBrace i so) (struct_read None i so list close)
      by (g.tag_some {from = i} is) so list close = rw (sees-same p.OpenBrace (next i) so) (struct_read (Some (text i)) (next i) so list close)
  specifier_read (g.spec_enum_tag {from = from} is so shut) =
      rw (is, tag_read (g.tag_some so), no_brace (next (next from)) shut) (typed_read (fits m (omega arith) refl))
  specifier_read (g.spec_enum {from = from} {brace = brace_} is name so list close) = rw (is, tag_read name) (typed_read (by name so list close))
    where
      by : {h : ℕ} {name : Option (List ℕ)} {list : List Item} {i brace_ close : Input} → ReadsTag name i brace_ → peek brace_ ≡ k.Punct p.OpenBrace
          → ReadsItems h list (next brace_) close → peek close ≡ k.Punct p.CloseBrace → Answers m h (s.Enum name list) (next close) (enum_by m below name brace_)
      by (g.tag_none {from = i} is) so list close = rw (sees-same p.OpenBrace i so) (enum_read None i so list close)
      by (g.tag_some {from = i} is) so list close = rw (sees-same p.OpenBrace (next i) so) (enum_read (Some (text i)) (next i) so list close)

  specifiers_on : (n d room : ℕ) (before : List Specifier) (t : Bool) {typed typedef : Bool} {h : ℕ} {list : List Specifier} {from rest : Input} → d + room ≡ m → left from ≤ n
      → ReadsSpecifiers typed h typedef list from rest
      → Answers m (max d h) (before ++ list, t || typedef) rest (specifiers_from m below n typed (found (before, t) room) from)
  unfolding specifiers_from
  specifiers_on zero d room before t same enough (g.specifiers_last one is) = absurd (omega (arith, specifier_shorter one))
  specifiers_on zero d room before t same enough (g.specifiers_more one others) = absurd (omega (arith, specifier_shorter one))
  specifiers_on (suc n) d room before t {typedef = typedef} {list = list} {rest = rest} same enough (g.specifiers_last {after = after} one is) =
      rw (specifier_begins one) (and_so _ (specifier_read one) (omega arith) (λ more also. done n (min room more) (omega arith)))
    where
      done : (n room : ℕ) {d : ℕ} → d + room ≡ m → Answers m d (before ++ list, t || typedef) rest (specifiers_from m below n after (found (before ++ list, t || typedef) room) rest)
      done zero room same = fits room same refl
      done (suc n) room same = rw is (fits room same refl)
  specifiers_on (suc n) d room before t {rest = rest} same enough (g.specifiers_more {after = after} {a} {b} {g} {h} {first} {others} {mid = mid} one more_) =
      rw (specifier_begins one) (and_so _ (specifier_read one) (omega arith) (λ more also.
      as_deep (omega arith) (subst (λ v. Answers m (max (max d g) h) v rest (specifiers_from m below n after (found (before ++ first ∷ [], t || a) (min room more)) mid))
      (pair (append_assoc before (first ∷ []) others) (or_assoc t a b))
      (specifiers_on n (max d g) (min room more) (before ++ first ∷ []) (t || a) (omega arith) (omega (arith, specifier_shorter one)) more_))))
    where
      pair : {x y : List Specifier} {u v : Bool} → x ≡ y → u ≡ v → ◌≡◌ {A = List Specifier × Bool} (x, u) (y, v)
      pair e f = cc

  pub specifiers_read : {typedef : Bool} {h : ℕ} {list : List Specifier} {from rest : Input} → ReadsSpecifiers false h typedef list from rest
      → Answers m h (list, typedef) rest (specifiers m below from)
  unfolding specifiers
  specifiers_read {from = from} list = rw (specifiers_begin list) (as_deep (omega arith) (specifiers_on (left from) 0 m [] false (omega arith) (omega arith) list))
