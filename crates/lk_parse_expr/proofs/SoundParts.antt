-- What the readers of specifiers, declarators and of what holds them read is of their form.
use Rattle.std.proofs.Common.{◌≡◌, ℕ, zero, suc, ◌+◌, ◌-◌, ◌≤◌, min, max, Bool, true, false, not, ◌&&◌, ◌||◌, List, [], ◌∷◌, ◌++◌, Option, Some, None, is_some, refl, sym, ap, subst, ◌∙◌, append_assoc, append-nil, arith}
use Rattle.lk_lex.specs.declared.token.TokenKind.{TokenKind}
use Rattle.lk_lex.specs.declared.token.TokenKind.TheVariants as k
use Rattle.lk_lex.specs.declared.punct.Punct.TheVariants as p
use Rattle.lk_lex.specs.declared.keyword.Keyword.TheVariants as w
use Rattle.lk_tree.specs.declared.specifiers.Qualifier.{Qualifier}
use Rattle.lk_tree.specs.declared.expression.Expr.{Expr}
use Rattle.lk_tree.specs.declared.expression.Specifier.{Specifier}
use Rattle.lk_tree.specs.declared.expression.Specifier.TheVariants as s
use Rattle.lk_tree.specs.declared.expression.Member.{Member}
use Rattle.lk_tree.specs.declared.expression.MemberDeclarator.{MemberDeclarator}
use Rattle.lk_tree.specs.declared.expression.Item.{Item}
use Rattle.lk_tree.specs.declared.expression.Declarator.{Declarator}
use Rattle.lk_tree.specs.declared.expression.Parameter.{Parameter}
use Rattle.lk_parse_expr.specs.declared.found.Found.{Found}
use Rattle.lk_parse_expr.specs.declared.naming.Naming.{Naming}
use Rattle.lk_parse_expr.specs.declared.naming.Naming.TheVariants as naming
use Rattle.lk_parse_expr.specs.declared.naming.Head.{Head}
use Rattle.lk_parse_expr.specs.declared.naming.Head.TheVariants as head
use Rattle.lk_parse_expr.specs.Input.{Input, peek, here, next, text, is_typedef, declare, leave, declared_since}
use Rattle.lk_parse_expr.specs.Words.{qualifier_of, specifier_of, is_word, is_open_brace, is_close_brace, is_specifier_word, continues_specifiers, begins_specifiers, opens_parameters}
use Rattle.lk_parse_expr.specs.Heads.{may_name, may_omit, is_group}
use Rattle.lk_parse_expr.specs.Readers.{same_punct, same_keyword, Outcome, Parser, and_then, pure, found, joined, left, sees, sees_key, is_punct, is_key, ◌>>◌, expect, separated, repeat}
use Rattle.lk_parse_expr.specs.Grammar as g
use Rattle.lk_parse_expr.specs.Grammar.{ReadsQualifiers, ReadsExpr, ReadsSpecifiers, ReadsSpecifier, ReadsTag, ReadsMembers, ReadsTypeName, ReadsMember, ReadsMemberDeclarators, ReadsMemberDeclarator, ReadsItems, ReadsItem, ReadsDeclarator, ReadsSize, ReadsParameters, ReadsParameterList, ReadsParameter, declarator_at, item_at}
use Rattle.lk_parse_expr.specs.Reading.{Readers, qualifiers, qualifiers_from, qualifiers_by, tag, struct_by, struct_body, enum_by, enum_body, enum_end, comma_if_any, keyword_by, specifier, with_specifier, specifiers_from, specifiers, begins_declarator, dots, is_ellipsis, type_name_from, parameter_from, parameter, parameters, width, field, member_from, value, item_from, size, array_of, function_of, grown_from, parts, need_inside, group, star_of, star, direct, declarator}
use Rattle.lk_parse_expr.proofs.Steps.{seen, seen_key, word-same}
use Rattle.lk_parse_expr.proofs.Left.{left-took}
use Rattle.lk_parse_expr.proofs.Lists.{Row, row_last, row_more}
use Rattle.lk_parse_expr.proofs.Yielding.{Yields, and_yields, weaker, by_test, after_need, after_expect, after_word, Has, at_end}
use Rattle.lk_parse_expr.proofs.Sound.{Sound, HasRow, separated_has, repeat_has}
use Rattle.lk_parse_expr.proofs.Specifying.{specifier_shorter, or_assoc, begun}
use Rattle.lk_parse_expr.proofs.SoundExpr.{one_expr}

-- ---- qualifiers

qualifiers_on : {others : List Qualifier} {from mid rest : Input} → ReadsQualifiers others mid rest → (first : Qualifier) → qualifier_of (peek from) ≡ Some first → mid ≡ next from
    → ReadsQualifiers (first ∷ others) from rest
qualifiers_on {others = others} {from} {rest = rest} so first is e = g.qualifiers_more is (subst (λ i. ReadsQualifiers others i rest) e so)

-- the qualifiers so far, as what is left to be read behind them
Behind : List Qualifier → Input → Input → Type 0
Behind list from mid = (others : List Qualifier) (rest : Input) → ReadsQualifiers others mid rest → ReadsQualifiers (list ++ others) from rest

qualifiers_has_on : (n : ℕ) (from mid : Input) (list : List Qualifier) → Behind list from mid → left mid ≤ n → Yields (λ list rest. ReadsQualifiers list from rest) (qualifiers_from n list mid)
unfolding qualifiers_from Behind
qualifiers_has_on zero from mid list behind enough =
    subst (λ l. ReadsQualifiers l from mid) (append-nil list) (behind [] mid (g.qualifiers_none (rw (at_end mid enough) refl)))
qualifiers_has_on (suc n) from mid list behind enough =
    by (λ first so enough. qualifiers_has_on n from (next mid) (list ++ first ∷ []) so enough) (qualifier_of (peek mid)) refl
  where
    by : ((first : Qualifier) → Behind (list ++ first ∷ []) from (next mid) → left (next mid) ≤ n → Yields (λ list rest. ReadsQualifiers list from rest) (qualifiers_from n (list ++ first ∷ []) (next mid)))
        → (o : Option Qualifier) → qualifier_of (peek mid) ≡ o → Yields (λ list rest. ReadsQualifiers list from rest) (qualifiers_by list (qualifiers_from n) o mid)
    by again None e = subst (λ l. ReadsQualifiers l from mid) (append-nil list) (behind [] mid (g.qualifiers_none e))
    by again (Some first) e = again first
        (λ others rest so. subst (λ l. ReadsQualifiers l from rest) (sym (append_assoc list (first ∷ []) others)) (behind (first ∷ others) rest (g.qualifiers_more e so)))
        (omega (arith, left-took mid (λ end. let f : qualifier_of (peek mid) ≡ None = rw end refl in absurd cc)))

qualifiers_has : (from : Input) → Yields (λ list rest. ReadsQualifiers list from rest) (qualifiers from)
unfolding qualifiers Behind
qualifiers_has from = qualifiers_has_on (left from) from from [] (λ others rest so. so) (omega arith)

-- ---- tokens

-- a tag was read, or none
abbrev TagRead : Input → Option (List ℕ) → Input → Type 0
TagRead i None mid = mid ≡ i
TagRead i (Some name) mid = (name ≡ text i) × (mid ≡ next i) × (peek i ≡ k.Word)

tag_has : (i : Input) → Yields (TagRead i) (tag i)
unfolding tag
tag_has i = by_test _ (is_word (peek i)) _ _ (λ e. (refl, refl, word-same (peek i) e)) (λ e. refl)

unbraced : (kind : TokenKind) → is_punct p.OpenBrace kind ≡ false → is_open_brace kind ≡ false
unfolding same_punct
unbraced (k.Punct p.OpenBrace) e = absurd cc
unbraced _ e = refl

no_open_brace : (i : Input) → sees p.OpenBrace i ≡ false → is_open_brace (peek i) ≡ false
unfolding sees
no_open_brace i e = unbraced (peek i) e

ellipsis_there : (kind : TokenKind) → is_ellipsis kind ≡ true → kind ≡ k.Punct p.Ellipsis
ellipsis_there (k.Punct p.Ellipsis) e = refl
ellipsis_there _ e = absurd cc

close_brace_there : (kind : TokenKind) → is_close_brace kind ≡ true → kind ≡ k.Punct p.CloseBrace
close_brace_there (k.Punct p.CloseBrace) e = refl
close_brace_there _ e = absurd cc

no_specifier_word : (kind : TokenKind) → is_key w.Struct kind ≡ false → is_key w.Enum kind ≡ false → specifier_of kind ≡ None → is_specifier_word kind ≡ false
unfolding same_keyword
no_specifier_word (k.Key w.Struct) a b none = absurd cc
no_specifier_word (k.Key w.Enum) a b none = absurd cc
no_specifier_word kind a b none = ap is_some none

negated : (b : Bool) → not b ≡ false → b ≡ true
negated true e = refl
negated false e = absurd cc

lowered : {n : Naming} {level h : ℕ} {one : Declarator} {head : Head} {from rest : Input} → ReadsDeclarator n level h one head from rest → ReadsDeclarator n 0 h one head from rest
lowered (g.star l is list inner) = g.star (omega arith) is list inner
lowered (g.star_alone l may is list) = g.star_alone (omega arith) may is list
lowered (g.named l may is) = g.named (omega arith) may is
lowered (g.group l is may inner so) = g.group (omega arith) is may inner so
lowered (g.array l inner is size so) = g.array (omega arith) inner is size so
lowered (g.array_alone l may is size so) = g.array_alone (omega arith) may is size so
lowered (g.function l inner is list so) = g.function (omega arith) inner is list so
lowered (g.function_alone l may is opens list so) = g.function_alone (omega arith) may is opens list so

both : (a b : Bool) → a && b ≡ true → (a ≡ true) × (b ≡ true)
both true b e = (refl, e)
both false b e = absurd cc

untyped : (typed : Bool) → not typed ≡ true → typed ≡ false
untyped true e = absurd cc
untyped false e = refl

-- a name that goes on with specifiers is a typedef name where no type came before
is_name : (typed : Bool) (i : Input) → continues_specifiers typed i ≡ true → sees_key w.Struct i ≡ false → sees_key w.Enum i ≡ false → specifier_of (peek i) ≡ None
    → (typed ≡ false) × (peek i ≡ k.Word) × (is_typedef i.names (text i) ≡ true)
unfolding continues_specifiers sees_key
is_name typed i e a b none =
    let f : (is_word (peek i) && not typed) && is_typedef i.names (text i) ≡ true = rw (no_specifier_word (peek i) a b none) at e in
    let g = both (is_word (peek i) && not typed) (is_typedef i.names (text i)) f in
    let h = both (is_word (peek i)) (not typed) g.0 in
    (untyped typed h.1, word-same (peek i) h.0, g.1)

members_on : (from : Input) (d h : ℕ) (list : List Member) (one : Member) (i j : Input) → ReadsMembers d list from i → ReadsMember h one i j → ReadsMembers (max d h) (list ++ one ∷ []) from j
members_on from d h list one i j (g.members_last first) so = g.members_more first (g.members_last so)
members_on from d h list one i j (g.members_more {g = g2} {h = h2} {first} {others} before more) so =
    let e : max g2 (max h2 h) ≡ max (max g2 h2) h = omega arith in
    subst (λ n. ReadsMembers n (first ∷ (others ++ one ∷ [])) from j) e (g.members_more before (members_on _ h2 h others one i j more so))

row_items : {h : ℕ} {list : List Item} {from rest : Input} → Row ReadsItem h list from rest → ReadsItems h list from rest
row_items (row_last one) = g.items_last one
row_items (row_more one is others) = g.items_more one is (row_items others)

row_items_comma : {h : ℕ} {list : List Item} {from rest : Input} → Row ReadsItem h list from rest → peek rest ≡ k.Punct p.Comma → peek (next rest) ≡ k.Punct p.CloseBrace
    → ReadsItems h list from (next rest)
row_items_comma (row_last one) is so = g.items_comma one is so
row_items_comma (row_more one also others) is so = g.items_more one also (row_items_comma others is so)

row_parameters : {h : ℕ} {list : List Parameter} {from rest : Input} → Row ReadsParameter h list from rest → ReadsParameterList h list false from rest
row_parameters (row_last one) = g.parameters_last one
row_parameters (row_more one is others) = g.parameters_more one is (row_parameters others)

row_parameters_dots : {h : ℕ} {list : List Parameter} {from rest : Input} → Row ReadsParameter h list from rest → peek rest ≡ k.Punct p.Comma → peek (next rest) ≡ k.Punct p.Ellipsis
    → ReadsParameterList h list true from (next (next rest))
row_parameters_dots (row_last one) is so = g.parameters_dots one is so
row_parameters_dots (row_more one also others) is so = g.parameters_more one also (row_parameters_dots others is so)

row_fields : {h : ℕ} {list : List MemberDeclarator} {from rest : Input} → Row ReadsMemberDeclarator h list from rest → ReadsMemberDeclarators h list from rest
row_fields (row_last one) = g.fields_last one
row_fields (row_more one is others) = g.fields_more one is (row_fields others)

none_at_end : (t : Bool) (i : Input) → peek i ≡ k.End → continues_specifiers t i ≡ false
unfolding continues_specifiers
none_at_end t i e = rw e refl

record HasSpecifier (m : ℕ) (typed : Bool) (from : Input) (f : Found (Specifier × Bool × Bool)) (rest : Input) : Type 0 where
  depth : ℕ
  reads : ReadsSpecifier typed f.tree.1 depth f.tree.2 f.tree.0 from rest
  all : depth + f.room ≡ m

module _ (m : ℕ) (below : Readers) (sound : Sound m below) where
  -- ---- specifiers

  abbrev IsOne : Bool → Input → Found Specifier → Input → Type 0
  IsOne typed from f rest = Has m (λ h one rest. ReadsSpecifier typed true h false one from rest) f rest

  struct_body_has : (typed : Bool) (from brace_ : Input) (name : Option (List ℕ)) → peek from ≡ k.Key w.Struct → (peek brace_ ≡ k.Punct p.OpenBrace → ReadsTag name (next from) brace_)
      → Yields (IsOne typed from) (struct_body m below name brace_)
  unfolding struct_body
  struct_body_has typed from brace_ name is tagged = after_need _ 2 m brace_ _ (λ some. after_expect _ p.OpenBrace brace_ _ (λ so.
      and_yields _ _ (below.member (next brace_)) _ (sound.member (next brace_)) (λ first i has.
      and_yields (Has m (λ d list i. ReadsMembers d list (next brace_) i)) _ (repeat (sees p.CloseBrace) below.member (joined (found [] m) first) i) _
      (repeat_has m ReadsMember (λ d list i. ReadsMembers d list (next brace_) i) (sees p.CloseBrace) below.member sound.member (members_on (next brace_))
      i has.depth (min m first.room) (first.tree ∷ []) (g.members_last has.reads) (let a = has.all in omega arith))
      (λ list close run. after_expect _ p.CloseBrace close _ (λ ends. record { depth = run.depth; reads = g.spec_struct is (tagged so) so run.reads ends; all = run.all })))))

  enum_end_has : (typed : Bool) (from brace_ : Input) (name : Option (List ℕ)) (list : Found (List Item)) (mid : Input) → peek from ≡ k.Key w.Enum → ReadsTag name (next from) brace_
      → peek brace_ ≡ k.Punct p.OpenBrace → HasRow m ReadsItem is_close_brace (next brace_) list mid → Yields (IsOne typed from) (enum_end name list mid)
  unfolding comma_if_any
  enum_end_has typed from brace_ name list mid is tagged so has = by (sees p.Comma mid) refl
    where
      by : (b : Bool) → sees p.Comma mid ≡ b → Yields (IsOne typed from) (enum_end name list mid)
      by true e = rw e (after_expect _ p.CloseBrace (next mid) _ (λ ends.
          record { depth = has.depth; reads = g.spec_enum is tagged so (row_items_comma has.row (seen p.Comma mid e) ends) ends; all = has.all }))
      by false e = rw e (after_expect _ p.CloseBrace mid _ (λ ends. record { depth = has.depth; reads = g.spec_enum is tagged so (row_items has.row) ends; all = has.all }))

  enum_body_has : (typed : Bool) (from brace_ : Input) (name : Option (List ℕ)) → peek from ≡ k.Key w.Enum → (peek brace_ ≡ k.Punct p.OpenBrace → ReadsTag name (next from) brace_)
      → Yields (IsOne typed from) (enum_body m below name brace_)
  unfolding enum_body
  enum_body_has typed from brace_ name is tagged = after_need _ 1 m brace_ _ (λ some. after_expect _ p.OpenBrace brace_ _ (λ so.
      and_yields (HasRow m ReadsItem is_close_brace (next brace_)) _ (separated is_close_brace below.item m (next brace_)) _ (separated_has m ReadsItem is_close_brace below.item sound.item (next brace_))
      (λ list mid has. enum_end_has typed from brace_ name list mid is (tagged so) so has)))

  tagged : (i mid : Input) (name : List ℕ) → TagRead i (Some name) mid → ReadsTag (Some name) i mid
  tagged i mid name so = subst (λ n. ReadsTag (Some n) i mid) (sym so.0) (subst (λ j. ReadsTag (Some (text i)) i j) (sym so.1) (g.tag_some so.2))

  untagged : (i mid : Input) → TagRead i None mid → peek mid ≡ k.Punct p.OpenBrace → ReadsTag None i mid
  untagged i mid so is = subst (λ j. ReadsTag None j mid) so (g.tag_none is)

  tag_alone : (i mid : Input) (name : List ℕ) (P : List ℕ → Input → Type 0) → TagRead i (Some name) mid → P (text i) (next i) → P name mid
  tag_alone i mid name P so yes_ = subst (λ n. P n mid) (sym so.0) (subst (λ j. P (text i) j) (sym so.1) yes_)

  struct_has : (typed : Bool) (from : Input) → peek from ≡ k.Key w.Struct → Yields (IsOne typed from) (and_then (tag (next from)) (struct_by m below))
  struct_has typed from is = and_yields _ _ (tag (next from)) _ (tag_has (next from)) by
    where
      by : (name : Option (List ℕ)) (mid : Input) → TagRead (next from) name mid → Yields (IsOne typed from) (struct_by m below name mid)
      by None mid so = by_test _ (sees p.OpenBrace mid) _ _ (λ e. struct_body_has typed from mid None is (untagged (next from) mid so)) (λ e. tt)
      by (Some name) mid so = by_test _ (sees p.OpenBrace mid) _ _
          (λ e. struct_body_has typed from mid (Some name) is (λ _. tagged (next from) mid name so))
          (λ e. record {
            depth = 0;
            all = omega arith;
            reads = tag_alone (next from) mid name (λ n j. ReadsSpecifier typed true 0 false (s.StructTag n) from j) so
                (g.spec_struct_tag is so.2 (no_open_brace (next (next from)) (ap (sees p.OpenBrace) (sym so.1) ∙ e)));
          })

  enum_has : (typed : Bool) (from : Input) → peek from ≡ k.Key w.Enum → Yields (IsOne typed from) (and_then (tag (next from)) (enum_by m below))
  enum_has typed from is = and_yields _ _ (tag (next from)) _ (tag_has (next from)) by
    where
      by : (name : Option (List ℕ)) (mid : Input) → TagRead (next from) name mid → Yields (IsOne typed from) (enum_by m below name mid)
      by None mid so = by_test _ (sees p.OpenBrace mid) _ _ (λ e. enum_body_has typed from mid None is (untagged (next from) mid so)) (λ e. tt)
      by (Some name) mid so = by_test _ (sees p.OpenBrace mid) _ _
          (λ e. enum_body_has typed from mid (Some name) is (λ _. tagged (next from) mid name so))
          (λ e. record {
            depth = 0;
            all = omega arith;
            reads = tag_alone (next from) mid name (λ n j. ReadsSpecifier typed true 0 false (s.EnumTag n) from j) so
                (g.spec_enum_tag is so.2 (no_open_brace (next (next from)) (ap (sees p.OpenBrace) (sym so.1) ∙ e)));
          })

  keyword_has : (typed : Bool) (from : Input) → continues_specifiers typed from ≡ true → sees_key w.Struct from ≡ false → sees_key w.Enum from ≡ false
      → (o : Option Specifier) → specifier_of (peek from) ≡ o → Yields (HasSpecifier m typed from) (keyword_by m below typed (peek from) o from)
  keyword_has typed from goes a b (Some one) is = record { depth = 0; reads = g.spec_keyword one is; all = omega arith }
  keyword_has typed from goes a b None is = after_word _ from _ (λ so. let name = is_name typed from goes a b is in
      record { depth = 0; reads = subst (λ t. ReadsSpecifier t true 0 false (s.Typedef (text from)) from (next from)) (sym name.0) (g.spec_name name.1 name.2); all = omega arith })

  specifier_has : (typed : Bool) (from : Input) → continues_specifiers typed from ≡ true → Yields (HasSpecifier m typed from) (specifier m below typed from)
  unfolding specifier
  specifier_has typed from goes = by_test _ (sees_key w.Struct from) _ _
      (λ e. and_yields (IsOne typed from) _ (and_then (tag (next from)) (struct_by m below)) _ (struct_has typed from (seen_key w.Struct from e)) (λ one i has. record { depth = has.depth; reads = has.reads; all = has.all }))
      (λ a. by_test _ (sees_key w.Enum from) _ _
      (λ e. and_yields (IsOne typed from) _ (and_then (tag (next from)) (enum_by m below)) _ (enum_has typed from (seen_key w.Enum from e)) (λ one i has. record { depth = has.depth; reads = has.reads; all = has.all }))
      (λ b. keyword_has typed from goes a b (specifier_of (peek from)) refl))

  -- specifiers so far: what is behind them makes a longer list, and they end where none goes on
  record SoFar (t : Bool) (d : ℕ) (b : Bool) (list : List Specifier) (from mid : Input) : Type 0 where
    more : (others : List Specifier) (h : ℕ) (td : Bool) (rest : Input) (n : ℕ) → max d h ≡ n → ReadsSpecifiers t h td others mid rest → ReadsSpecifiers false n (b || td) (list ++ others) from rest
    ends : continues_specifiers t mid ≡ false → ReadsSpecifiers false d b list from mid

  so_on : (d : ℕ) (b : Bool) (list : List Specifier) {t after a : Bool} {h : ℕ} {one : Specifier} {from mid rest : Input}
      → ((others : List Specifier) (h : ℕ) (td : Bool) (rest : Input) (n : ℕ) → max d h ≡ n → ReadsSpecifiers t h td others mid rest → ReadsSpecifiers false n (b || td) (list ++ others) from rest)
      → ReadsSpecifier t after h a one mid rest → SoFar after (max d h) (b || a) (list ++ one ∷ []) from rest
  so_on d b list {t} {after} {a} {h} {one} {from} {mid} {rest} more first = record {
    more = λ others k td last n e so.
        subst (λ l. ReadsSpecifiers false n ((b || a) || td) l from last) (sym (append_assoc list (one ∷ []) others))
        (subst (λ v. ReadsSpecifiers false n v (list ++ one ∷ others) from last) (sym (or_assoc b a td)) (more (one ∷ others) (max h k) (a || td) last n (omega arith) (g.specifiers_more first so)));
    ends = λ e. more (one ∷ []) h a rest (max d h) refl (g.specifiers_last first e);
  }

  abbrev pub IsList : Input → Found (List Specifier × Bool) → Input → Type 0
  IsList from f rest = Has m (λ h list rest. ReadsSpecifiers false h list.1 list.0 from rest) f rest

  specifiers_has_on : (n : ℕ) (t : Bool) (from mid : Input) (before : Found (List Specifier × Bool)) (d : ℕ) → SoFar t d before.tree.1 before.tree.0 from mid → d + before.room ≡ m → left mid ≤ n
      → Yields (IsList from) (specifiers_from m below n t before mid)
  unfolding specifiers_from
  specifiers_has_on zero t from mid before d so all enough = record { depth = d; reads = so.ends (none_at_end t mid (at_end mid enough)); all = all }
  specifiers_has_on (suc n) t from mid before d so all enough = by_test _ (continues_specifiers t mid) _ _
      (λ e. and_yields (HasSpecifier m t mid) _ (specifier m below t mid) _ (specifier_has t mid e) (λ one i has.
      specifiers_has_on n one.tree.1 from i (with_specifier before one) (max d has.depth) (so_on d before.tree.1 before.tree.0 so.more has.reads) (let a = has.all in omega arith) (omega (arith, specifier_shorter has.reads))))
      (λ e. record { depth = d; reads = so.ends e; all = all })

  pub specifiers_has : (from : Input) → Yields (IsList from) (specifiers m below from)
  unfolding specifiers specifiers_from
  specifiers_has from = by_test _ (begins_specifiers from) _ _ (λ e. by e (left from) (omega arith)) (λ e. tt)
    where
      first : (others : List Specifier) (h : ℕ) (td : Bool) (rest : Input) (n : ℕ) → max 0 h ≡ n → ReadsSpecifiers false h td others from rest → ReadsSpecifiers false n (false || td) ([] ++ others) from rest
      first others h td rest n e so = let f : h ≡ n = omega arith in subst (λ k. ReadsSpecifiers false k td others from rest) f so

      by : begins_specifiers from ≡ true → (n : ℕ) → left from ≤ n → Yields (IsList from) (specifiers_from m below n false (found ([], false) m) from)
      by e zero some = absurd (omega (arith, begun false from e))
      by e (suc n) some = by_test _ (continues_specifiers false from) _ _
          (λ f. and_yields (HasSpecifier m false from) _ (specifier m below false from) _ (specifier_has false from f) (λ one i has.
          specifiers_has_on n one.tree.1 from i (with_specifier (found ([], false) m) one) (max 0 has.depth) (so_on 0 false [] first has.reads) (let a = has.all in omega arith)
          (omega (arith, specifier_shorter has.reads))))
          (λ f. absurd (let g : true ≡ false = sym e ∙ f in cc))

  -- ---- type names, parameters, members and items

  pub type_name_has : (from : Input) → Yields (Has (suc m) (λ h name rest. ReadsTypeName h name from rest)) (type_name_from m below (here from) from)
  unfolding type_name_from
  type_name_has from = and_yields (IsList from) _ (specifiers m below from) _ (specifiers_has from) (λ first i has. by_test _ (begins_declarator naming.Abstract i) _ _
      (λ e. and_yields _ _ (below.declarator naming.Abstract i) _ (sound.declarator naming.Abstract i) (λ inner j more.
      record { depth = _; reads = g.name_declared has.reads more.reads; all = (let a = has.all in let b = more.all in omega arith) }))
      (λ e. record { depth = _; reads = g.name_plain has.reads; all = (let a = has.all in omega arith) }))

  parameter_has : (from : Input) → Yields (Has m (λ h one rest. ReadsParameter h one from rest)) (parameter m below from)
  unfolding parameter_from
  parameter_has from = and_yields (IsList from) _ (specifiers m below from) _ (specifiers_has from) (λ first i has. by_test _ (begins_declarator naming.Either i) _ _
      (λ e. and_yields _ _ (below.declarator naming.Either i) _ (sound.declarator naming.Either i) (λ inner j more.
      record { depth = _; reads = g.parameter_declared has.reads more.reads; all = (let a = has.all in let b = more.all in omega arith) }))
      (λ e. record { depth = _; reads = g.parameter_plain has.reads; all = has.all }))

  IsParameters : Input → Found (List Parameter × Bool) → Input → Type 0
  IsParameters from f rest = Has m (λ h list rest. ReadsParameters h list.0 list.1 from rest) f rest

  dots_has : (from mid : Input) (list : Found (List Parameter)) → HasRow m ReadsParameter is_ellipsis from list mid
      → Yields (IsParameters from) (and_then (dots mid) (λ dots. pure (found (list.tree, dots) list.room)))
  unfolding dots IsParameters
  dots_has from mid list has = by (sees p.Comma mid) refl
    where
      by : (b : Bool) → sees p.Comma mid ≡ b → Yields (IsParameters from) (and_then (dots mid) (λ dots. pure (found (list.tree, dots) list.room)))
      by true e = rw e (and_yields (λ d j. (d ≡ true) × (j ≡ next (next mid)) × (peek (next mid) ≡ k.Punct p.Ellipsis)) _ ((expect p.Ellipsis >> pure true) (next mid)) _
          (after_expect _ p.Ellipsis (next mid) _ (λ so. (refl, refl, so)))
          (λ d j so. record {
            depth = has.depth;
            all = has.all;
            reads = subst (λ b. ReadsParameters has.depth list.tree b from j) (sym so.0) (subst (λ i. ReadsParameters has.depth list.tree true from i) (sym so.1)
                (g.parameters_some (row_parameters_dots has.row (seen p.Comma mid e) so.2)));
          }))
      by false e = rw e (record { depth = has.depth; reads = g.parameters_some (row_parameters has.row); all = has.all })

  parameters_has : (from : Input) → Yields (IsParameters from) (parameters m below from)
  unfolding parameters IsParameters
  parameters_has from = by_test _ (sees p.CloseParen from) _ _
      (λ e. record { depth = 0; reads = g.parameters_none (seen p.CloseParen from e); all = omega arith })
      (λ e. and_yields (HasRow m ReadsParameter is_ellipsis from) _ (separated is_ellipsis (parameter m below) m from) _ (separated_has m ReadsParameter is_ellipsis (parameter m below) parameter_has from)
      (λ list mid has. dots_has from mid list has))

  width_has : (i : Input) → Yields (λ f rest. (peek i ≡ k.Punct p.Colon) × Has m (λ h one rest. ReadsExpr 2 h one (next i) rest) f rest) (width m below i)
  unfolding width
  width_has i = after_expect _ p.Colon i _ (λ is. weaker _ _ (below.expr 2 (next i)) (λ f rest has. (is, has)) (one_expr m below sound 2 (next i) (omega arith)))

  field_has : (i : Input) → Yields (Has m (λ h one rest. ReadsMemberDeclarator h one i rest)) (field m below i)
  unfolding field
  field_has i = by_test _ (sees p.Colon i) _ _
      (λ e. and_yields _ _ (width m below i) _ (width_has i) (λ one j has. record { depth = _; reads = g.field_unnamed has.0 has.1.reads; all = has.1.all }))
      (λ e. and_yields _ _ (below.declarator naming.Named i) _ (sound.declarator naming.Named i) (λ inner j has. by_test _ (sees p.Colon j) _ _
      (λ f. and_yields _ _ (width m below j) _ (width_has j) (λ one l more.
      record { depth = _; reads = g.field_width has.reads more.0 more.1.reads; all = (let a = has.all in let b = more.1.all in omega arith) }))
      (λ f. record { depth = _; reads = g.field_plain has.reads; all = has.all })))

  pub member_has : (from : Input) → Yields (Has (suc m) (λ h one rest. ReadsMember h one from rest)) (member_from m below (here from) from)
  unfolding member_from
  member_has from = and_yields (IsList from) _ (specifiers m below from) _ (specifiers_has from) (λ first i has.
      and_yields (HasRow m ReadsMemberDeclarator (λ _. false) i) _ (separated (λ _. false) (field m below) m i) _ (separated_has m ReadsMemberDeclarator (λ _. false) (field m below) field_has i) (λ list j more.
      after_expect _ p.Semicolon j _ (λ so. record { depth = _; reads = g.member_one has.reads (row_fields more.row) so; all = (let a = has.all in let b = more.all in omega arith) })))

  -- behind the name of an item
  abbrev ItemValueOf : Input → Option Expr → ℕ → Input → Type 0
  ItemValueOf i None room rest = (rest ≡ i) × (room ≡ m)
  ItemValueOf i (Some value) room rest = (h : ℕ) × (peek i ≡ k.Punct p.Equal) × ReadsExpr 2 h value (next i) rest × (h + room ≡ m)

  abbrev ItemValue : Input → Found (Option Expr) → Input → Type 0
  ItemValue i f rest = ItemValueOf i f.tree f.room rest

  value_has : (i : Input) → Yields (ItemValue i) (value m below i)
  unfolding value
  value_has i = by_test _ (sees p.Equal i) _ _
      (λ e. after_need _ 1 m i _ (λ some. and_yields _ _ (below.expr 2 (next i)) _ (one_expr m below sound 2 (next i) (omega arith)) (λ one j has. (has.depth, seen p.Equal i e, has.reads, has.all))))
      (λ e. (refl, refl))

  pub item_has : (from : Input) → Yields (Has (suc m) (λ h one rest. ReadsItem h one from rest)) (item_from m below (here from) from)
  unfolding item_from
  item_has from = after_word _ from _ (λ is. and_yields (ItemValue (next from)) _ (value m below (next from)) _ (value_has (next from)) (λ one i so. by is one.tree one.room i so))
    where
      by : peek from ≡ k.Word → (one : Option Expr) (room : ℕ) (i : Input) → ItemValueOf (next from) one room i
          → Has (suc m) (λ h item rest. ReadsItem h item from rest) (found (item_at from one) room) (declare (text from) false i)
      by is None room i so = record {
        depth = 1;
        all = (let e = so.1 in omega arith);
        reads = subst (λ j. ReadsItem 1 (item_at from None) from (declare (text from) false j)) (sym so.0) (g.item_plain is);
      }
      by is (Some value) room i so = record { depth = 1 + so.0; reads = g.item_valued is so.1 so.2; all = (let e = so.3 in omega arith) }

  -- ---- declarators

  IsSize : Input → Found (Option Expr) → Input → Type 0
  IsSize i f rest = Has m (λ h one rest. ReadsSize h one i rest) f rest

  size_has : (i : Input) → Yields (IsSize i) (size m below i)
  unfolding size IsSize
  size_has i = by_test _ (sees p.CloseBracket i) _ _
      (λ e. record { depth = 0; reads = g.size_none (seen p.CloseBracket i e); all = omega arith })
      (λ e. and_yields _ _ (below.expr 1 i) _ (one_expr m below sound 1 i (omega arith)) (λ one j has. record { depth = _; reads = g.size_some has.reads; all = has.all }))

  abbrev IsDeclarator : Naming → ℕ → Input → Found (Declarator × Head) → Input → Type 0
  IsDeclarator n level from f rest = Has (suc m) (λ h one rest. ReadsDeclarator n level h one.0 one.1 from rest) f rest

  array_on : (n : Naming) (from mid : Input) (before : Found (Declarator × Head)) → peek mid ≡ k.Punct p.OpenBracket → 1 ≤ before.room → IsDeclarator n 1 from before mid
      → Yields (IsDeclarator n 1 from) (array_of m below (here from) (Some before.tree.0) before.tree.1 (before.room - 1) (next mid))
  unfolding array_of IsSize
  array_on n from mid before is some has = and_yields (IsSize (next mid)) _ (size m below (next mid)) _ (size_has (next mid)) (λ one i more. after_expect _ p.CloseBracket i _ (λ so.
      record { depth = _; reads = g.array (omega arith) has.reads is more.reads so; all = (let a = has.all in let b = more.all in omega arith) }))

  array_alone_has : (n : Naming) (from : Input) → peek from ≡ k.Punct p.OpenBracket → may_omit n ≡ true → Yields (IsDeclarator n 1 from) (array_of m below (here from) None head.Abstract m (next from))
  unfolding array_of IsSize
  array_alone_has n from is may = and_yields (IsSize (next from)) _ (size m below (next from)) _ (size_has (next from)) (λ one i more. after_expect _ p.CloseBracket i _ (λ so.
      record { depth = _; reads = g.array_alone (omega arith) may is more.reads so; all = (let b = more.all in omega arith) }))

  function_on : (n : Naming) (from mid : Input) (before : Found (Declarator × Head)) → peek mid ≡ k.Punct p.OpenParen → 1 ≤ before.room → IsDeclarator n 1 from before mid
      → Yields (IsDeclarator n 1 from) (function_of m below (here from) (Some before.tree.0) before.tree.1 (before.room - 1) (next mid))
  unfolding function_of IsParameters declared_since leave next
  function_on n from mid before is some has = and_yields (IsParameters (next mid)) _ (parameters m below (next mid)) _ (parameters_has (next mid)) (λ list i more. after_expect _ p.CloseParen i _ (λ so.
      record { depth = _; reads = g.function (omega arith) has.reads is more.reads so; all = (let a = has.all in let b = more.all in omega arith) }))

  function_alone_has : (n : Naming) (from : Input) → peek from ≡ k.Punct p.OpenParen → may_omit n ≡ true → opens_parameters (next from) ≡ true
      → Yields (IsDeclarator n 1 from) (function_of m below (here from) None head.Abstract m (next from))
  unfolding function_of IsParameters declared_since leave next
  function_alone_has n from is may opens = and_yields (IsParameters (next from)) _ (parameters m below (next from)) _ (parameters_has (next from)) (λ list i more. after_expect _ p.CloseParen i _ (λ so.
      record { depth = _; reads = g.function_alone (omega arith) may is opens more.reads so; all = (let b = more.all in omega arith) }))

  grown_has : (n : Naming) (count : ℕ) (from mid : Input) (before : Found (Declarator × Head)) → IsDeclarator n 1 from before mid → Yields (IsDeclarator n 1 from) (grown_from m below (here from) count before mid)
  unfolding grown_from
  grown_has n zero from mid before has = has
  grown_has n (suc count) from mid before has = by_test _ (sees p.OpenBracket mid) _ _
      (λ e. after_need _ 1 before.room mid _ (λ some. and_yields _ _ (array_of m below (here from) (Some before.tree.0) before.tree.1 (before.room - 1) (next mid)) _
      (array_on n from mid before (seen p.OpenBracket mid e) some has) (λ longer i more. grown_has n count from i longer more)))
      (λ e. by_test _ (sees p.OpenParen mid) _ _
      (λ f. after_need _ 1 before.room mid _ (λ some. and_yields _ _ (function_of m below (here from) (Some before.tree.0) before.tree.1 (before.room - 1) (next mid)) _
      (function_on n from mid before (seen p.OpenParen mid f) some has) (λ longer i more. grown_has n count from i longer more)))
      (λ f. has))

  after_inside : {A : Type 0} (Q : A → Input → Type 0) (n : Naming) (i : Input) (q : Parser A) → Yields Q (q i) → Yields Q ((need_inside m below n >> q) i)
  after_inside Q naming.Named i q so = after_need Q 1 m i q (λ some. so)
  after_inside Q naming.Abstract i q so = so
  after_inside Q naming.Either i q so = so

  group_has : (n : Naming) (from : Input) → peek from ≡ k.Punct p.OpenParen → is_group n (next from) ≡ true → Yields (IsDeclarator n 1 from) (group m below n (here from) from)
  unfolding group
  group_has n from is may = after_inside _ n from _ (and_yields _ _ (below.declarator n (next from)) _ (sound.declarator n (next from)) (λ inner i has. after_expect _ p.CloseParen i _ (λ so.
      record { depth = _; reads = g.group (omega arith) is may has.reads so; all = (let a = has.all in omega arith) })))

  opens : (n : Naming) (i : Input) → is_group n i ≡ false → (may_omit n ≡ true) × (opens_parameters i ≡ true)
  opens naming.Named i e = absurd cc
  opens naming.Abstract i e = (refl, negated (opens_parameters i) e)
  opens naming.Either i e = (refl, negated (opens_parameters i) e)

  direct_has : (n : Naming) (from : Input) → Yields (IsDeclarator n 1 from) (direct m below n (here from) from)
  unfolding direct
  direct_has n from = by_test _ (sees p.OpenParen from) _ _
      (λ e. by_test _ (is_group n (next from)) _ _
      (λ f. group_has n from (seen p.OpenParen from e) f)
      (λ f. let o = opens n (next from) f in function_alone_has n from (seen p.OpenParen from e) o.0 o.1))
      (λ e. by_test _ (sees p.OpenBracket from && may_omit n) _ _
      (λ f. let b = both (sees p.OpenBracket from) (may_omit n) f in array_alone_has n from (seen p.OpenBracket from b.0) b.1)
      (λ f. by_test _ (may_name n) _ _
      (λ may. after_word _ from _ (λ is. record { depth = 1; reads = g.named (omega arith) may is; all = omega arith }))
      (λ may. tt)))

  lower : (n : Naming) (from : Input) (o : Outcome (Found (Declarator × Head))) → Yields (IsDeclarator n 1 from) o → Yields (IsDeclarator n 0 from) o
  lower n from o so = weaker _ _ o (λ f rest has. record { depth = has.depth; reads = lowered has.reads; all = has.all }) so

  star_has : (n : Naming) (from : Input) → peek from ≡ k.Punct p.Star → Yields (IsDeclarator n 0 from) (star m below n (here from) from)
  unfolding star star_of
  star_has n from is = after_inside _ n from _ (and_yields _ _ (qualifiers (next from)) _ (qualifiers_has (next from)) (λ list i so. by_test _ (not (begins_declarator n i) && may_omit n) _ _
      (λ e. record { depth = 1; reads = g.star_alone (omega arith) (both (not (begins_declarator n i)) (may_omit n) e).1 is so; all = omega arith })
      (λ e. and_yields _ _ (below.declarator n i) _ (sound.declarator n i) (λ inner j has. record { depth = _; reads = g.star (omega arith) is so has.reads; all = (let a = has.all in omega arith) }))))

  pub declarator_has : (n : Naming) (from : Input) → Yields (IsDeclarator n 0 from) (declarator m below n (here from) from)
  unfolding declarator parts
  declarator_has n from = by_test _ (sees p.Star from) _ _
      (λ e. star_has n from (seen p.Star from e))
      (λ e. lower n from _ (and_yields _ _ (direct m below n (here from) from) _ (direct_has n from) (λ first i has. grown_has n (left i) from i first has)))
