-- Initialisers and declarations: what is read is behind what it is read from, begins with a token of its form, and has a level at least.
use Rattle.std.proofs.Common.{◌≡◌, ℕ, ◌+◌, ◌≤◌, Bool, true, false, ◌||◌, List, refl, arith}
use Rattle.lk_lex.specs.declared.token.TokenKind.{TokenKind}
use Rattle.lk_lex.specs.declared.token.TokenKind.TheVariants as k
use Rattle.lk_lex.specs.declared.punct.Punct.TheVariants as p
use Rattle.lk_tree.specs.declared.declaration.Declare.{Declare}
use Rattle.lk_tree.specs.declared.declaration.InitDeclarator.{InitDeclarator}
use Rattle.lk_tree.specs.declared.declaration.Init.{Init}
use Rattle.lk_tree.specs.declared.declaration.Entry.{Entry}
use Rattle.lk_tree.specs.declared.declaration.Designator.{Designator}
use Rattle.lk_parse_expr.specs.Input.{Input, peek, next}
use Rattle.lk_parse_expr.specs.Words.{is_close_brace, continues_specifiers}
use Rattle.lk_parse_expr.specs.Heads.{declare_head}
use Rattle.lk_parse_expr.specs.Front.{start_of, is_start}
use Rattle.lk_parse_expr.specs.Readers.{same_punct, left, sees}
use Rattle.lk_parse_expr.specs.Declarations as g
use Rattle.lk_parse_expr.specs.Declarations.{ReadsDesignator, ReadsDesignators, ReadsInit, ReadsEntries, ReadsEntry, ReadsInitDeclarator, ReadsInitDeclarators, ReadsDeclare}
use Rattle.lk_parse_expr.proofs.Left.{left-next, left-took, left-expr, left-specifiers, left-declarator, left-head}
use Rattle.lk_parse_expr.proofs.Firsts.{positive, starts, unseen, some_left}
use Rattle.lk_parse_expr.proofs.Specifying.{specifiers_begin, declarator_one}
use Rattle.lk_parse_decl.specs.Reading.{begins_designator}

pub left-designator : {h : ℕ} {one : Designator} {from rest : Input} → ReadsDesignator h one from rest → left rest ≤ left from
left-designator (g.designator_member {from} is so) = omega (arith, left-next from, left-next (next from))
left-designator (g.designator_index {from = from} {close} is at so) = omega (arith, left-next from, left-next close, left-expr at)

pub shorter-designator : {h : ℕ} {one : Designator} {from rest : Input} → ReadsDesignator h one from rest → left rest + 1 ≤ left from
shorter-designator (g.designator_member {from} is so) = omega (arith, left-took from (λ end. cc), left-next (next from))
shorter-designator (g.designator_index {from = from} {close} is at so) = omega (arith, left-took from (λ end. cc), left-next close, left-expr at)

pub left-designators : {h : ℕ} {list : List Designator} {from rest : Input} → ReadsDesignators h list from rest → left rest ≤ left from
left-designators (g.designators_last one) = left-designator one
left-designators (g.designators_more one others) = omega (arith, left-designator one, left-designators others)

mutual
  pub left-init : {h : ℕ} {value : Init} {from rest : Input} → ReadsInit h value from rest → left rest ≤ left from
  left-init (g.init_expr value) = left-expr value
  left-init (g.init_list {from = from} {close} is entries so) = omega (arith, left-next from, left-next close, left-entries entries)

  pub left-entries : {h : ℕ} {list : List Entry} {from rest : Input} → ReadsEntries h list from rest → left rest ≤ left from
  left-entries (g.entries_last one) = left-entry one
  left-entries (g.entries_comma {rest = rest} one is so) = omega (arith, left-next rest, left-entry one)
  left-entries (g.entries_more {mid = mid} one is others) = omega (arith, left-next mid, left-entry one, left-entries others)

  pub left-entry : {h : ℕ} {one : Entry} {from rest : Input} → ReadsEntry h one from rest → left rest ≤ left from
  left-entry (g.entry_plain value) = left-init value
  left-entry (g.entry_designated {mid = mid} list is value) = omega (arith, left-next mid, left-designators list, left-init value)

pub left-init_declarator : {typedef : Bool} {h : ℕ} {one : InitDeclarator} {from rest : Input} → ReadsInitDeclarator typedef h one from rest → left rest ≤ left from
left-init_declarator {typedef} (g.plain {head = head} {rest = rest} inner) = omega (arith, left-declarator inner, left-head head typedef rest)
left-init_declarator {typedef} (g.initialised {head = head} {mid = mid} inner is value) =
    omega (arith, left-declarator inner, left-next (declare_head head typedef mid), left-head head typedef mid, left-init value)

pub left-init_declarators : {typedef : Bool} {h : ℕ} {list : List InitDeclarator} {from rest : Input} → ReadsInitDeclarators typedef h list from rest → left rest ≤ left from
left-init_declarators (g.declarators_last one) = left-init_declarator one
left-init_declarators (g.declarators_more {mid = mid} one is others) = omega (arith, left-next mid, left-init_declarator one, left-init_declarators others)

pub left-declare : {h : ℕ} {one : Declare} {from rest : Input} → ReadsDeclare h one from rest → left rest ≤ left from
left-declare (g.declare_none {rest = rest} list is) = omega (arith, left-next rest, left-specifiers list)
left-declare (g.declare_some {rest = rest} list declarators is) = omega (arith, left-next rest, left-specifiers list, left-init_declarators declarators)

-- a declaration takes its `;` at least
pub shorter-declare : {h : ℕ} {one : Declare} {from rest : Input} → ReadsDeclare h one from rest → left rest + 1 ≤ left from
shorter-declare (g.declare_none {rest = rest} list is) = omega (arith, left-took rest (λ end. cc), left-specifiers list)
shorter-declare (g.declare_some {rest = rest} list declarators is) = omega (arith, left-took rest (λ end. cc), left-specifiers list, left-init_declarators declarators)

pub declare_begins : {h : ℕ} {one : Declare} {from rest : Input} → ReadsDeclare h one from rest → continues_specifiers false from ≡ true
declare_begins (g.declare_none list is) = specifiers_begin list
declare_begins (g.declare_some list declarators is) = specifiers_begin list

pub declare_one : {h : ℕ} {one : Declare} {from rest : Input} → ReadsDeclare h one from rest → 1 ≤ h
declare_one (g.declare_none list is) = omega arith
declare_one (g.declare_some list declarators is) = omega arith

pub init_one : {h : ℕ} {value : Init} {from rest : Input} → ReadsInit h value from rest → 1 ≤ h
init_one (g.init_expr value) = positive value
init_one (g.init_list is entries so) = omega arith

pub entry_one : {h : ℕ} {one : Entry} {from rest : Input} → ReadsEntry h one from rest → 1 ≤ h
entry_one (g.entry_plain value) = init_one value
entry_one (g.entry_designated list is value) = omega (arith, init_one value)

pub entries_one : {h : ℕ} {list : List Entry} {from rest : Input} → ReadsEntries h list from rest → 1 ≤ h
entries_one (g.entries_last one) = entry_one one
entries_one (g.entries_comma one is so) = entry_one one
entries_one (g.entries_more one is others) = omega (arith, entry_one one)

pub init_declarator_one : {typedef : Bool} {h : ℕ} {one : InitDeclarator} {from rest : Input} → ReadsInitDeclarator typedef h one from rest → 1 ≤ h
init_declarator_one (g.plain inner) = declarator_one inner
init_declarator_one (g.initialised inner is value) = omega (arith, declarator_one inner)

-- ---- what an initialiser, a designator and an entry begin with

pub init_begins : {h : ℕ} {value : Init} {from rest : Input} → ReadsInit h value from rest → is_start (start_of (peek from)) || sees p.OpenBrace from ≡ true
unfolding sees same_punct
init_begins (g.init_expr value) = rw (starts value) refl
init_begins (g.init_list is entries so) = rw is refl

pub init_no_designator : {h : ℕ} {value : Init} {from rest : Input} → ReadsInit h value from rest → begins_designator from ≡ false
unfolding sees same_punct
init_no_designator {from = from} (g.init_expr value) = let f = unseen p.Dot value refl in let h = unseen p.OpenBracket value refl in rw (f, h) refl
init_no_designator (g.init_list is entries so) = rw is refl

pub init_no_close : {h : ℕ} {value : Init} {from rest : Input} → ReadsInit h value from rest → is_close_brace (peek from) ≡ false
init_no_close {from = from} (g.init_expr value) = by (peek from) refl
  where
    by : (kind : TokenKind) → peek from ≡ kind → is_close_brace kind ≡ false
    by (k.Punct p.CloseBrace) e = let f : is_start (start_of (peek from)) ≡ false = rw e refl in let s = starts value in absurd cc
    by _ e = refl
init_no_close (g.init_list is entries so) = rw is refl

pub entry_no_close : {h : ℕ} {one : Entry} {from rest : Input} → ReadsEntry h one from rest → is_close_brace (peek from) ≡ false
entry_no_close (g.entry_plain value) = init_no_close value
entry_no_close (g.entry_designated list is value) = by list
  where
    by : {h : ℕ} {list : List Designator} {from rest : Input} → ReadsDesignators h list from rest → is_close_brace (peek from) ≡ false
    by (g.designators_last (g.designator_member is so)) = rw is refl
    by (g.designators_last (g.designator_index is at so)) = rw is refl
    by (g.designators_more (g.designator_member is so) others) = rw is refl
    by (g.designators_more (g.designator_index is at so) others) = rw is refl

-- an entry takes a token
pub entry_some : {h : ℕ} {one : Entry} {from rest : Input} → ReadsEntry h one from rest → 1 ≤ left from
entry_some (g.entry_plain (g.init_expr value)) = some_left value
entry_some (g.entry_plain (g.init_list {from = from} is entries so)) = omega (arith, left-took from (λ end. cc))
entry_some (g.entry_designated (g.designators_last one) is value) = omega (arith, shorter-designator one)
entry_some (g.entry_designated (g.designators_more one others) is value) = omega (arith, shorter-designator one)

pub designator_begins : {h : ℕ} {one : Designator} {from rest : Input} → ReadsDesignator h one from rest → begins_designator from ≡ true
unfolding sees same_punct
designator_begins (g.designator_member is so) = rw is refl
designator_begins (g.designator_index is at so) = rw is refl

pub designators_begin : {h : ℕ} {list : List Designator} {from rest : Input} → ReadsDesignators h list from rest → begins_designator from ≡ true
designators_begin (g.designators_last one) = designator_begins one
designators_begin (g.designators_more one others) = designator_begins one
