-- The readers of initialisers and declarations read each of them, of whatever depth.
use Rattle.std.proofs.Common.{◌≡◌, ℕ, zero, suc, ◌+◌, ◌≤◌, min, max, Bool, true, false, not, ◌&&◌, List, [], ◌∷◌, Some, None, Ok, refl, sym, ap, subst, ◌∙◌, arith}
use Rattle.lk_lex.specs.declared.token.TokenKind.{TokenKind}
use Rattle.lk_lex.specs.declared.token.TokenKind.TheVariants as k
use Rattle.lk_lex.specs.declared.punct.Punct.TheVariants as p
use Rattle.lk_tree.specs.declared.declaration.Declare.{Declare}
use Rattle.lk_tree.specs.declared.declaration.InitDeclarator.{InitDeclarator}
use Rattle.lk_tree.specs.declared.declaration.Init.{Init}
use Rattle.lk_tree.specs.declared.declaration.Init.TheVariants as init
use Rattle.lk_tree.specs.declared.declaration.Entry.{Entry}
use Rattle.lk_tree.specs.declared.declaration.Designator.{Designator}
use Rattle.lk_tree.specs.declared.expression.Declarator.{Declarator}
use Rattle.lk_parse_expr.specs.declared.found.Found.{Found}
use Rattle.lk_parse_expr.specs.declared.naming.Head.{Head}
use Rattle.lk_parse_expr.specs.Input.{Input, peek, here, next}
use Rattle.lk_parse_expr.specs.Words.{is_close_brace}
use Rattle.lk_parse_expr.specs.Heads.{declare_head}
use Rattle.lk_parse_expr.specs.Readers.{same_punct, Outcome, Parser, and_then, exhausted, sees, goes_on, found, left}
use Rattle.lk_parse_expr.specs.Declarations as g
use Rattle.lk_parse_expr.specs.Declarations.{ReadsDesignator, ReadsDesignators, ReadsInit, ReadsEntries, ReadsEntry, ReadsInitDeclarator, ReadsInitDeclarators, ReadsDeclare, list_at}
use Rattle.lk_parse_expr.specs.declared.naming.Naming.{Naming}
use Rattle.lk_parse_expr.specs.declared.naming.Naming.TheVariants as naming
use Rattle.lk_parse_expr.specs.Grammar.{ReadsDeclarator}
use Rattle.lk_parse_expr.specs.Reading.{readers, comma_if_any, begins_declarator}
use Rattle.lk_parse_expr.proofs.Steps.{Answers, fits, deep, and_so, around, needs, expects, reads_word, seen, sees-same}
use Rattle.lk_parse_expr.proofs.Tables.{stops, stops_end, stops_comma, bracket, brace, semicolon}
use Rattle.lk_parse_expr.proofs.Firsts.{unseen, no_comma}
use Rattle.lk_parse_expr.proofs.Lists.{Row, row_last, row_more, Items, separated_read, separated_on, Run, run_none, run_more, Members, repeat_read}
use Rattle.lk_parse_expr.proofs.Good.{ends_declarator}
use Rattle.lk_parse_expr.proofs.Specifying.{specifiers_read}
use Rattle.lk_parse_expr.proofs.Declaring.{peek-head, equal_goes_on, some_declarator, declarator_begins}
use Rattle.lk_parse_expr.proofs.Left.{left-next}
use Rattle.lk_parse_expr.proofs.Complete.{complete}
use Rattle.lk_parse_decl.specs.Reading.{begins_designator, designator, designators, entry, braced, init_from, initialiser, initialised, init_declarator, declarators, declarators_behind, after_first, declare_from, declaration}
use Rattle.lk_parse_decl.proofs.Left.{left-entry, left-init_declarator, shorter-designator, init_one, entries_one, declare_one, init_begins, init_no_designator, designator_begins, designators_begin, entry_no_close, entry_some, declare_begins}

designators_run : {h : ℕ} {list : List Designator} {from rest : Input} → ReadsDesignators h list from rest → Run ReadsDesignator h list from rest
designators_run (g.designators_last {h} {first = one} {from} {rest} first) = let e : max h 0 ≡ h = omega arith in subst (λ n. Run ReadsDesignator n (one ∷ []) from rest) e (run_more first run_none)
designators_run (g.designators_more one others) = run_more one (designators_run others)

-- how the entries of a list end
record EntriesEnd (h : ℕ) (list : List Entry) (from rest : Input) : Type 0 where
  mid : Input
  row : Row ReadsEntry h list from mid
  follow : stops 1 (peek mid) ≡ true
  stop : goes_on is_close_brace mid ≡ false
  comma : comma_if_any mid ≡ Ok (tt, rest)

entries_end : {h : ℕ} {list : List Entry} {from rest : Input} → ReadsEntries h list from rest → peek rest ≡ k.Punct p.CloseBrace → EntriesEnd h list from rest
unfolding goes_on comma_if_any sees same_punct
entries_end (g.entries_last {rest = rest} one) close = record { mid = rest; row = row_last one; follow = stops_end 1 (peek rest) brace close; stop = rw close refl; comma = rw close refl }
entries_end (g.entries_comma {rest = mid} one is so) close =
    record { mid = mid; row = row_last one; follow = stops_comma 1 (peek mid) (omega arith) is; stop = rw (is, so) refl; comma = rw is refl }
entries_end (g.entries_more one is others) close = let e = entries_end others close in record { mid = e.mid; row = row_more one is e.row; follow = e.follow; stop = e.stop; comma = e.comma }

pub record InitsRead (m : ℕ) (below : Parser (Found Init)) : Type 0 where
  pub reads : {h : ℕ} {value : Init} {from rest : Input} → ReadsInit h value from rest → stops 1 (peek rest) ≡ true → Answers m h value rest (below from)

module _ (m : ℕ) (below : Parser (Found Init)) (good : InitsRead m below) where
  designator_read : {h : ℕ} {one : Designator} {from rest : Input} → ReadsDesignator h one from rest → Answers m h one rest (designator m below from)
  unfolding designator sees same_punct
  designator_read (g.designator_member {from} is so) = rw is (reads_word (next from) _ so (fits m (omega arith) refl))
  designator_read (g.designator_index {from = from} {close} is at so) =
      rw is (expects from _ is (and_so _ ((complete m).expr at (stops_end 2 (peek close) bracket so)) (omega arith) (λ room same. expects close _ so (fits room same refl))))

  each_designator : Members m ReadsDesignator (λ i. not (begins_designator i)) (designator m below)
  each_designator = record { reads = designator_read; begins = λ one. ap not (designator_begins one); shorter = shorter-designator }

  no_more : (i : Input) → peek i ≡ k.Punct p.Equal → not (begins_designator i) ≡ true
  unfolding sees same_punct
  no_more i is = rw is refl

  entry_read : {h : ℕ} {one : Entry} {from rest : Input} → ReadsEntry h one from rest → stops 1 (peek rest) ≡ true → Answers m h one rest (entry m below from)
  unfolding entry designators
  entry_read (g.entry_plain {from = from} value) stop =
      rw (init_no_designator value) (and_so _ (good.reads value stop) (omega arith) (λ room same. fits (min m room) (omega arith) refl))
  entry_read (g.entry_designated {g = depth} {h} {mid = mid} all is value) stop =
      rw (designators_begin all) (and_so {g = depth} _ (and_so {g = max 0 depth} {h = depth} _ (repeat_read each_designator 0 m [] (omega arith) (designators_run all) (no_more mid is)) (omega arith)
      (λ room same. expects mid _ is (fits room (omega arith) refl))) (omega arith)
      (λ room same. and_so _ (good.reads value stop) (omega arith) (λ more also. fits (min room more) (omega arith) refl)))

  each_entry : Items m ReadsEntry is_close_brace (stops 1) (entry m below)
  each_entry = record { reads = entry_read; comma = stops_comma 1 (k.Punct p.Comma) (omega arith) refl; begins = entry_no_close; some = entry_some; behind = left-entry }

  braced_read : {h : ℕ} {list : List Entry} (from : Input) {close : Input} → peek from ≡ k.Punct p.OpenBrace → ReadsEntries h list (next from) close → peek close ≡ k.Punct p.CloseBrace
      → Answers (suc m) (1 + h) (init.List (list_at from list)) (next close) (braced m below (here from) from)
  unfolding braced
  braced_read from {close} is list so =
      let e = entries_end list so in
      around (needs 1 from _ (entries_one list) (λ some. and_so _ (separated_read each_entry e.row e.follow e.stop) (omega arith) (λ room same. rw e.comma (expects close _ so (fits room same refl)))))

  init_read : {h : ℕ} {value : Init} {from rest : Input} → ReadsInit h value from rest → stops 1 (peek rest) ≡ true → Answers (suc m) h value rest (init_from m below (here from) from)
  unfolding init_from
  init_read (g.init_expr {from = from} value) stop = rw (unseen p.OpenBrace value refl) (and_so _ ((complete (suc m)).expr value stop) (omega arith) (λ room same. fits room same refl))
  init_read (g.init_list {from = from} is entries so) stop = rw (sees-same p.OpenBrace from is) (braced_read from is entries so)

none_left : {A : Type 0} {h : ℕ} {tree : A} {rest : Input} (begins : Bool) (i : Input) → begins ≡ true → 1 ≤ h → Answers zero h tree rest (exhausted begins i)
none_left begins i e some = rw e (deep (omega arith) i refl)

pub inits : (m : ℕ) → InitsRead m (initialiser m)
unfolding initialiser
inits zero = record { reads = λ {from = from} is stop. none_left _ from (init_begins is) (init_one is) }
inits (suc m) = record { reads = λ is stop. init_read m (initialiser m) (inits m) is stop }

-- a token that ends a declarator of a declaration
abbrev pub ends_init : TokenKind → Bool
ends_init kind = ends_declarator kind && stops 1 kind

both : (a b : Bool) → a && b ≡ true → (a ≡ true) × (b ≡ true)
both true b e = (refl, e)
both false b e = absurd cc

declarators_row : {typedef : Bool} {h : ℕ} {list : List InitDeclarator} {from rest : Input} → ReadsInitDeclarators typedef h list from rest → Row (ReadsInitDeclarator typedef) h list from rest
declarators_row (g.declarators_last one) = row_last one
declarators_row (g.declarators_more one is others) = row_more one is (declarators_row others)

init_declarator_some : {typedef : Bool} {h : ℕ} {one : InitDeclarator} {from rest : Input} → ReadsInitDeclarator typedef h one from rest → 1 ≤ left from
init_declarator_some (g.plain inner) = some_declarator inner
init_declarator_some (g.initialised inner is value) = some_declarator inner

pub semicolon_no_declarator : (n : Naming) (i : Input) → begins_declarator n i ≡ true → sees p.Semicolon i ≡ false
unfolding sees same_punct
semicolon_no_declarator n i e = by (sees p.Semicolon i) refl
  where
    by : (b : Bool) → sees p.Semicolon i ≡ b → sees p.Semicolon i ≡ false
    by true f = let g : begins_declarator n i ≡ false = rw (seen p.Semicolon i f) refl in absurd cc
    by false f = f

no_semicolon : {typedef : Bool} {h : ℕ} {list : List InitDeclarator} {from rest : Input} → ReadsInitDeclarators typedef h list from rest → sees p.Semicolon from ≡ false
no_semicolon {from = from} (g.declarators_last (g.plain inner)) = semicolon_no_declarator naming.Named from (declarator_begins inner)
no_semicolon {from = from} (g.declarators_last (g.initialised inner so value)) = semicolon_no_declarator naming.Named from (declarator_begins inner)
no_semicolon {from = from} (g.declarators_more (g.plain inner) is others) = semicolon_no_declarator naming.Named from (declarator_begins inner)
no_semicolon {from = from} (g.declarators_more (g.initialised inner so value) is others) = semicolon_no_declarator naming.Named from (declarator_begins inner)

module _ (m : ℕ) (typedef : Bool) where
  init_declarator_read : {h : ℕ} {one : InitDeclarator} {from rest : Input} → ReadsInitDeclarator typedef h one from rest → ends_init (peek rest) ≡ true → Answers m h one rest (init_declarator m typedef from)
  unfolding init_declarator initialised same_punct
  init_declarator_read (g.plain {head = head} {rest = rest} inner) end =
      let parts = both (ends_declarator (peek rest)) (stops 1 (peek rest)) (ap ends_init (sym (peek-head head typedef rest)) ∙ end) in
      and_so _ ((complete m).declarator inner parts.0) (omega arith) (λ room same. rw (equal_goes_on rest parts.1) (fits room same refl))
  init_declarator_read (g.initialised {head = head} {mid = mid} {rest} inner is value) end =
      let parts = both (ends_declarator (peek rest)) (stops 1 (peek rest)) end in
      and_so _ ((complete m).declarator inner (rw is refl)) (omega arith) (λ room same. rw (sees-same p.Equal mid is)
      (and_so _ ((inits m).reads value parts.1) (omega arith) (λ more also. fits (min room more) (omega arith) refl)))

  each_declarator : Items m (ReadsInitDeclarator typedef) (λ _. false) ends_init (init_declarator m typedef)
  unfolding same_punct
  each_declarator = record {
    reads = init_declarator_read;
    comma = rw (stops_comma 1 (k.Punct p.Comma) (omega arith) refl) refl;
    begins = λ one. refl;
    some = init_declarator_some;
    behind = left-init_declarator;
  }

  declarators_read : {h : ℕ} {list : List InitDeclarator} {from rest : Input} → ReadsInitDeclarators typedef h list from rest → peek rest ≡ k.Punct p.Semicolon
      → Answers m h list rest (declarators m typedef from)
  unfolding declarators same_punct
  declarators_read {from = from} {rest} list is =
      rw (no_semicolon list) (separated_read each_declarator (declarators_row list) (rw (stops_end 1 (peek rest) semicolon is, is) refl) (no_comma (λ _. false) rest p.Semicolon is refl))

  -- the first declarator of a list, and what is behind it
  pub record FirstOf (h : ℕ) (list : List InitDeclarator) (from rest : Input) : Type 0 where
    pub depth : ℕ
    pub inner : Declarator
    pub head : Head
    pub mid : Input
    pub reads : ReadsDeclarator naming.Named 0 depth inner head from mid
    pub follow : ends_declarator (peek mid) ≡ true
    pub shut : sees p.OpenBrace mid ≡ false
    pub within : depth ≤ h
    pub behind : (room : ℕ) → depth + room ≡ m → Answers m h list rest (declarators_behind m typedef (found (inner, head) room) mid)

  last_behind : {h : ℕ} {one : InitDeclarator} {rest : Input} {o : Outcome (Found InitDeclarator)} → Answers m h one rest o → peek rest ≡ k.Punct p.Semicolon
      → Answers m h (one ∷ []) rest (and_then o (after_first m typedef))
  unfolding after_first sees same_punct
  last_behind a is = and_so _ a (omega arith) (λ room same. rw is (fits (min m room) (omega arith) refl))

  more_behind : {g h : ℕ} {one : InitDeclarator} {others : List InitDeclarator} {mid rest : Input} {o : Outcome (Found InitDeclarator)} → Answers m g one mid o → peek mid ≡ k.Punct p.Comma
      → ReadsInitDeclarators typedef h others (next mid) rest → peek rest ≡ k.Punct p.Semicolon → Answers m (max g h) (one ∷ others) rest (and_then o (after_first m typedef))
  unfolding after_first same_punct
  more_behind {g} {one = one} {mid = mid} {rest} a is others so = and_so _ a (omega arith) (λ room same. rw (sees-same p.Comma mid is)
      (separated_on each_declarator (left mid) g (min m room) (one ∷ []) (omega arith) (left-next mid) (declarators_row others) (rw (stops_end 1 (peek rest) semicolon so, so) refl) (no_comma (λ _. false) rest p.Semicolon so refl)))

  plain_read : {g : ℕ} {inner : Declarator} (head : Head) (mid : Input) (room : ℕ) → g + room ≡ m → stops 1 (peek mid) ≡ true
      → Answers m g (record { declarator = inner; init = None }) (declare_head head typedef mid) (initialised m typedef (found (inner, head) room) mid)
  unfolding initialised
  plain_read head mid room same stop = rw (equal_goes_on mid stop) (fits room same refl)

  valued_read : (g : ℕ) {h : ℕ} {inner : Declarator} (head : Head) {value : Init} (mid : Input) {rest : Input} (room : ℕ) → g + room ≡ m → peek mid ≡ k.Punct p.Equal
      → ReadsInit h value (next (declare_head head typedef mid)) rest → stops 1 (peek rest) ≡ true
      → Answers m (max g h) (record { declarator = inner; init = Some value }) rest (initialised m typedef (found (inner, head) room) mid)
  unfolding initialised
  valued_read g head mid room same is value stop = rw (sees-same p.Equal mid is) (and_so _ ((inits m).reads value stop) (omega arith) (λ more also. fits (min room more) (omega arith) refl))

  comma_shut : (mid : Input) → peek mid ≡ k.Punct p.Comma → (ends_declarator (peek mid) ≡ true) × (stops 1 (peek mid) ≡ true) × (sees p.OpenBrace mid ≡ false)
  unfolding sees same_punct
  comma_shut mid is = (rw is refl, stops_comma 1 (peek mid) (omega arith) is, rw is refl)

  semicolon_shut : (mid : Input) → peek mid ≡ k.Punct p.Semicolon → (ends_declarator (peek mid) ≡ true) × (stops 1 (peek mid) ≡ true) × (sees p.OpenBrace mid ≡ false)
  unfolding sees same_punct
  semicolon_shut mid is = (rw is refl, stops_end 1 (peek mid) semicolon is, rw is refl)

  equal_shut : (mid : Input) → peek mid ≡ k.Punct p.Equal → (ends_declarator (peek mid) ≡ true) × (sees p.OpenBrace mid ≡ false)
  unfolding sees same_punct
  equal_shut mid is = (rw is refl, rw is refl)

  pub first_of_list : {h : ℕ} {list : List InitDeclarator} {from rest : Input} → ReadsInitDeclarators typedef h list from rest → peek rest ≡ k.Punct p.Semicolon → FirstOf h list from rest
  unfolding declarators_behind
  first_of_list (g.declarators_last (g.plain {head = head} {rest = mid} inner)) is =
      let at = sym (peek-head head typedef mid) ∙ is in let e = semicolon_shut mid at in
      record { depth = _; inner = _; head = head; mid = mid; reads = inner; follow = e.0; shut = e.2; within = omega arith; behind = λ room same. last_behind (plain_read head mid room same e.1) is }
  first_of_list (g.declarators_last (g.initialised {head = head} {mid = mid} {rest} inner so value)) is =
      let e = equal_shut mid so in
      record { depth = _; inner = _; head = head; mid = mid; reads = inner; follow = e.0; shut = e.1; within = omega arith; behind = λ room same. last_behind (valued_read _ head mid room same so value (stops_end 1 (peek rest) semicolon is)) is }
  first_of_list (g.declarators_more (g.plain {head = head} {rest = mid} inner) comma others) is =
      let at = sym (peek-head head typedef mid) ∙ comma in let e = comma_shut mid at in
      record { depth = _; inner = _; head = head; mid = mid; reads = inner; follow = e.0; shut = e.2; within = omega arith; behind = λ room same. more_behind (plain_read head mid room same e.1) comma others is }
  first_of_list (g.declarators_more {mid = rest} (g.initialised {head = head} {mid = mid} inner so value) comma others) is =
      let e = equal_shut mid so in
      record { depth = _; inner = _; head = head; mid = mid; reads = inner; follow = e.0; shut = e.1; within = omega arith; behind = λ room same. more_behind (valued_read _ head mid room same so value (stops_comma 1 (peek rest) (omega arith) comma)) comma others is }

declare_read : (m : ℕ) {h : ℕ} {one : Declare} {from rest : Input} → ReadsDeclare h one from rest → Answers (suc m) h one rest (declare_from m (here from) from)
unfolding declare_from declarators
declare_read m (g.declare_none {rest = rest} list is) =
    around (and_so _ (specifiers_read m (readers m) (complete m) list) (omega arith) (λ room same. rw (sees-same p.Semicolon rest is) (expects rest _ is (fits (min room m) (omega arith) refl))))
declare_read m (g.declare_some {typedef = typedef} {rest = rest} list all is) =
    around (and_so _ (specifiers_read m (readers m) (complete m) list) (omega arith) (λ room same.
    and_so _ (declarators_read m typedef all is) (omega arith) (λ more also. expects rest _ is (fits (min room more) (omega arith) refl))))

pub declarations : (m : ℕ) {h : ℕ} {one : Declare} {from rest : Input} → ReadsDeclare h one from rest → Answers m h one rest (declaration m from)
unfolding declaration
declarations zero {from = from} is = none_left _ from (declare_begins is) (declare_one is)
declarations (suc m) is = declare_read m is
