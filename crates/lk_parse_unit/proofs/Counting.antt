-- A tree has at most as many nodes as tokens: what is read takes no more ordinals than tokens.
use Rattle.std.proofs.Common.{◌≡◌, ℕ, ◌+◌, ◌≤◌, Bool, false, List, [], ◌∷◌, Option, Some, None, map, refl, sym, ◌∙◌, arith}
use Rattle.std.specs.Option.{option_map}
use Rattle.lk_lex.specs.declared.token.TokenKind.{TokenKind}
use Rattle.lk_lex.specs.declared.token.TokenKind.TheVariants as k
use Rattle.lk_lex.specs.declared.keyword.Keyword.TheVariants as w
use Rattle.lk_tree.specs.declared.expression.ExprForm.TheVariants as e
use Rattle.lk_tree.specs.declared.expression.DeclaratorForm.TheVariants as d
use Rattle.lk_tree.specs.declared.expression.Expr.{Expr}
use Rattle.lk_tree.specs.declared.expression.TypeName.{TypeName}
use Rattle.lk_tree.specs.declared.expression.Specifier.TheVariants as sp
use Rattle.lk_tree.specs.declared.specifiers.Storage.TheVariants as storage
use Rattle.lk_tree.specs.declared.specifiers.Qualifier.TheVariants as qualifier
use Rattle.lk_tree.specs.declared.specifiers.TypeWord.TheVariants as type_word
use Rattle.lk_tree.specs.declared.expression.Specifier.{Specifier}
use Rattle.lk_tree.specs.declared.expression.Member.{Member}
use Rattle.lk_tree.specs.declared.expression.MemberDeclarator.{MemberDeclarator}
use Rattle.lk_tree.specs.declared.expression.Item.{Item}
use Rattle.lk_tree.specs.declared.expression.Declarator.{Declarator}
use Rattle.lk_tree.specs.declared.expression.Parameter.{Parameter}
use Rattle.lk_tree.specs.declared.declaration.Declare.{Declare}
use Rattle.lk_tree.specs.declared.declaration.InitDeclarator.{InitDeclarator}
use Rattle.lk_tree.specs.declared.declaration.Init.{Init}
use Rattle.lk_tree.specs.declared.declaration.Entry.{Entry}
use Rattle.lk_tree.specs.declared.declaration.Designator.{Designator}
use Rattle.lk_tree.specs.declared.statement.Stmt.{Stmt}
use Rattle.lk_tree.specs.declared.statement.StmtForm.TheVariants as s
use Rattle.lk_tree.specs.declared.statement.BlockItem.{BlockItem}
use Rattle.lk_tree.specs.declared.statement.ForFirst.{ForFirst}
use Rattle.lk_tree.specs.declared.statement.Decl.{Decl}
use Rattle.lk_tree.specs.Numbers.{Numbered, list, list_of, optional, optional_of, expr, declarator, specifier, initialiser, statement, declare, of_designator, of_init_declarator, of_first, of_decl}
use Rattle.lk_ordinals.specs.Parts.{item, member, member_declarator, parameter, type_name, entry, block_item}
use Rattle.lk_parse_unit.proofs.Forms as form
use Rattle.lk_parse_expr.specs.declared.naming.Naming.{Naming}
use Rattle.lk_parse_expr.specs.declared.naming.Head.{Head}
use Rattle.lk_parse_expr.specs.Input.{Input, peek, here, next, text, leave, with_names}
use Rattle.lk_parse_expr.specs.Input as input
use Rattle.lk_parse_expr.specs.Words.{step_of, prefix_of, assign_of, binary_of, specifier_of}
use Rattle.lk_parse_expr.specs.Heads.{declare_head}
use Rattle.lk_parse_expr.specs.Readers.{left}
use Rattle.lk_parse_expr.specs.Grammar as g
use Rattle.lk_parse_expr.specs.Grammar.{ReadsTexts, ReadsExpr, ReadsArguments, ReadsExprs, ReadsTypeName, ReadsSpecifiers, ReadsSpecifier, ReadsMembers, ReadsMember, ReadsMemberDeclarators, ReadsMemberDeclarator, ReadsItems, ReadsItem, ReadsDeclarator, ReadsSize, ReadsParameters, ReadsParameterList, ReadsParameter}
use Rattle.lk_parse_expr.specs.Declarations as gd
use Rattle.lk_parse_expr.specs.Declarations.{list_at, ReadsDesignator, ReadsDesignators, ReadsInit, ReadsEntries, ReadsEntry, ReadsInitDeclarator, ReadsInitDeclarators, ReadsDeclare}
use Rattle.lk_parse_expr.specs.Statements as gs
use Rattle.lk_parse_expr.specs.Statements.{ReadsOptional, ReadsCondition, ReadsForFirst, ReadsStmt, ReadsScope, ReadsBlockItems, ReadsBlockItem, ReadsDecl, ReadsUnit}
use Rattle.lk_parse_expr.proofs.Left.{left-next, left-took, left-declare, left-leave, left-head, left-texts, left-qualifiers, left-tag}
use Rattle.lk_parse_unit.proofs.Left.{left-with_names}

-- a part takes no more ordinals than tokens
abbrev Counts : {A : Type 0} → (A → Numbered A) → A → Input → Input → Type 0
Counts number one from rest = (n : ℕ) → (number one n).1 + left rest ≤ n + left from

-- and at least one token less than that
abbrev Spares : {A : Type 0} → (A → Numbered A) → A → Input → Input → Type 0
Spares number one from rest = (n : ℕ) → (number one n).1 + left rest + 1 ≤ n + left from

abbrev row : {A : Type 0} → (A → Numbered A) → List A → Numbered (List A)
row number xs = list (map number xs)

abbrev part : {A : Type 0} → (A → Numbered A) → Option A → Numbered (Option A)
part number x = optional (option_map number x)

same_row : {A : Type 0} (number : A → Numbered A) (xs : List A) (n : ℕ) → (list_of number xs n).1 ≡ (row number xs n).1
same_row number [] n = refl
same_row number (x ∷ xs) n = same_row number xs (number x n).1

-- ---- a token that is not the end

took_assign : (i : Input) {op : _} → assign_of (peek i) ≡ Some op → left (next i) + 1 ≡ left i
took_assign i is = left-took i (λ end. let f : assign_of (peek i) ≡ None = rw end refl in absurd cc)

took_binary : (i : Input) {op : _} → binary_of (peek i) ≡ Some op → left (next i) + 1 ≡ left i
took_binary i is = left-took i (λ end. let f : binary_of (peek i) ≡ None = rw end refl in absurd cc)

took_step : (i : Input) {op : _} → step_of (peek i) ≡ Some op → left (next i) + 1 ≡ left i
took_step i is = left-took i (λ end. let f : step_of (peek i) ≡ None = rw end refl in absurd cc)

took_prefix : (i : Input) {op : _} → prefix_of (peek i) ≡ Some op → left (next i) + 1 ≡ left i
took_prefix i is = left-took i (λ end. let f : prefix_of (peek i) ≡ None = rw end refl in absurd cc)

took_specifier : (i : Input) {one : Specifier} → specifier_of (peek i) ≡ Some one → left (next i) + 1 ≡ left i
took_specifier i is = left-took i (λ end. let f : specifier_of (peek i) ≡ None = rw end refl in absurd cc)

shorter-texts : {bytes : List ℕ} {from rest : Input} → ReadsTexts bytes from rest → left rest + 1 ≤ left from
shorter-texts (g.text_last {from = from} is) = omega (arith, left-took from (λ end. cc))
shorter-texts (g.text_more {from = from} is others) = omega (arith, left-took from (λ end. cc), left-texts others)

-- ---- expressions, specifiers, declarators and type names

-- a keyword that is a specifier by itself has no node in it
no_node : (kind : TokenKind) (one : Specifier) → specifier_of kind ≡ Some one → (n : ℕ) → (specifier one n).1 ≡ n
no_node (k.Key w.Typedef) one is n = let e : one ≡ sp.Storage storage.Typedef = cc in rw e (form.specifier-Storage storage.Typedef n)
no_node (k.Key w.Extern) one is n = let e : one ≡ sp.Storage storage.Extern = cc in rw e (form.specifier-Storage storage.Extern n)
no_node (k.Key w.Static) one is n = let e : one ≡ sp.Storage storage.Static = cc in rw e (form.specifier-Storage storage.Static n)
no_node (k.Key w.Auto) one is n = let e : one ≡ sp.Storage storage.Auto = cc in rw e (form.specifier-Storage storage.Auto n)
no_node (k.Key w.Register) one is n = let e : one ≡ sp.Storage storage.Register = cc in rw e (form.specifier-Storage storage.Register n)
no_node (k.Key w.Inline) one is n = let e : one ≡ sp.Inline = cc in rw e (form.specifier-Inline n)
no_node (k.Key w.Const) one is n = let e : one ≡ sp.Qualifier qualifier.Const = cc in rw e (form.specifier-Qualifier qualifier.Const n)
no_node (k.Key w.Volatile) one is n = let e : one ≡ sp.Qualifier qualifier.Volatile = cc in rw e (form.specifier-Qualifier qualifier.Volatile n)
no_node (k.Key w.Restrict) one is n = let e : one ≡ sp.Qualifier qualifier.Restrict = cc in rw e (form.specifier-Qualifier qualifier.Restrict n)
no_node (k.Key w.Void) one is n = let e : one ≡ sp.Type type_word.Void = cc in rw e (form.specifier-Type type_word.Void n)
no_node (k.Key w.Char) one is n = let e : one ≡ sp.Type type_word.Char = cc in rw e (form.specifier-Type type_word.Char n)
no_node (k.Key w.Short) one is n = let e : one ≡ sp.Type type_word.Short = cc in rw e (form.specifier-Type type_word.Short n)
no_node (k.Key w.Int) one is n = let e : one ≡ sp.Type type_word.Int = cc in rw e (form.specifier-Type type_word.Int n)
no_node (k.Key w.Long) one is n = let e : one ≡ sp.Type type_word.Long = cc in rw e (form.specifier-Type type_word.Long n)
no_node (k.Key w.Signed) one is n = let e : one ≡ sp.Type type_word.Signed = cc in rw e (form.specifier-Type type_word.Signed n)
no_node (k.Key w.Unsigned) one is n = let e : one ≡ sp.Type type_word.Unsigned = cc in rw e (form.specifier-Type type_word.Unsigned n)
no_node (k.Key w.Bool) one is n = let e : one ≡ sp.Type type_word.Bool = cc in rw e (form.specifier-Type type_word.Bool n)
no_node _ one is n = absurd cc

mutual
  count-expr : {level h : ℕ} {one : Expr} {from rest : Input} → ReadsExpr level h one from rest → Counts expr one from rest
  count-expr (g.comma {left = x} {right = y} {from = from} {mid = mid} l a is b) n =
      omega (arith, form.node-Expr (here from) (e.Comma x y) n, form.expr-Comma x y (n + 1), count-expr a (n + 1), left-took mid (λ end. cc), count-expr b (expr x (n + 1)).1)
  count-expr (g.assign {left = x} {right = y} {from = from} {mid = mid} op l a is b) n =
      omega (arith, form.node-Expr (here from) (e.Assign op x y) n, form.expr-Assign op x y (n + 1), count-expr a (n + 1), took_assign mid is, count-expr b (expr x (n + 1)).1)
  count-expr (g.choice {condition = x} {yes = y} {no = z} {from = from} {mid = mid} {colon = colon} l a is b so c) n =
      let after : ℕ = (expr x (n + 1)).1 in
      omega (arith, form.node-Expr (here from) (e.Choice x y z) n, form.expr-Choice x y z (n + 1), count-expr a (n + 1), left-took mid (λ end. cc), count-expr b after, left-next colon, count-expr c (expr y after).1)
  count-expr (g.binary {left = x} {right = y} {from = from} {mid = mid} op l a is b) n =
      omega (arith, form.node-Expr (here from) (e.Binary op x y) n, form.expr-Binary op x y (n + 1), count-expr a (n + 1), took_binary mid is, count-expr b (expr x (n + 1)).1)
  count-expr (g.cast {name = x} {operand = y} {from = from} {close = close} l is begins name so operand) n =
      omega (
        arith,
        form.node-Expr (here from) (e.Cast x y) n,
        form.expr-Cast x y (n + 1),
        left-took from (λ end. cc),
        count-type_name name (n + 1),
        left-next close,
        count-expr operand (type_name x (n + 1)).1,
      )
  count-expr (g.pre {operand = x} {from = from} op l is operand) n =
      omega (arith, form.node-Expr (here from) (e.Pre op x) n, form.expr-Pre op x (n + 1), took_step from is, count-expr operand (n + 1))
  count-expr (g.prefix {operand = x} {from = from} op l is operand) n =
      omega (arith, form.node-Expr (here from) (e.Prefix op x) n, form.expr-Prefix op x (n + 1), took_prefix from is, count-expr operand (n + 1))
  count-expr (g.sizeof_expr {operand = x} {from = from} l is opens operand) n =
      omega (arith, form.node-Expr (here from) (e.SizeofExpr x) n, form.expr-SizeofExpr x (n + 1), left-took from (λ end. cc), count-expr operand (n + 1))
  count-expr (g.sizeof_type {name = x} {from = from} {close = close} l is opens name so) n =
      omega (arith, form.node-Expr (here from) (e.SizeofType x) n, form.expr-SizeofType x (n + 1), left-took from (λ end. cc), left-next (next from), count-type_name name (n + 1), left-next close)
  count-expr (g.index {array = x} {inner = y} {from = from} {mid = mid} {close = close} l a is b so) n =
      omega (arith, form.node-Expr (here from) (e.Index x y) n, form.expr-Index x y (n + 1), count-expr a (n + 1), left-took mid (λ end. cc), count-expr b (expr x (n + 1)).1, left-next close)
  count-expr (g.call {function = x} {arguments = ys} {from = from} {mid = mid} {close = close} l a is b so) n =
      omega (arith, form.node-Expr (here from) (e.Call x ys) n, form.expr-Call x ys (n + 1), count-expr a (n + 1), left-took mid (λ end. cc), count-arguments b (expr x (n + 1)).1, left-next close)
  count-expr (g.member {object = x} {from = from} {mid = mid} l a is so) n =
      omega (arith, form.node-Expr (here from) (e.Member x (text (next mid))) n, form.expr-Member x (text (next mid)) (n + 1), count-expr a (n + 1), left-took mid (λ end. cc), left-next (next mid))
  count-expr (g.arrow {pointer = x} {from = from} {mid = mid} l a is so) n =
      omega (arith, form.node-Expr (here from) (e.Arrow x (text (next mid))) n, form.expr-Arrow x (text (next mid)) (n + 1), count-expr a (n + 1), left-took mid (λ end. cc), left-next (next mid))
  count-expr (g.post {operand = x} {from = from} {mid = mid} op l a is) n =
      omega (arith, form.node-Expr (here from) (e.Post op x) n, form.expr-Post op x (n + 1), count-expr a (n + 1), took_step mid is)
  count-expr (g.word {from = from} l is) n = omega (arith, form.node-Expr (here from) (e.Word (text from)) n, form.expr-Word (text from) (n + 1), left-took from (λ end. cc))
  count-expr (g.number {value = v} {kind = kind} {from = from} l is) n = omega (arith, form.node-Expr (here from) (e.Number kind v) n, form.expr-Number kind v (n + 1), left-took from (λ end. cc))
  count-expr (g.char {value = v} {from = from} l is) n = omega (arith, form.node-Expr (here from) (e.Char v) n, form.expr-Char v (n + 1), left-took from (λ end. cc))
  count-expr (g.texts {bytes = bytes} {from = from} l is) n = omega (arith, form.node-Expr (here from) (e.Text bytes) n, form.expr-Text bytes (n + 1), shorter-texts is)
  count-expr (g.paren {inner = x} {from = from} {close = close} l is begins inner so) n =
      omega (arith, form.node-Expr (here from) (e.Paren x) n, form.expr-Paren x (n + 1), left-took from (λ end. cc), count-expr inner (n + 1), left-next close)

  count-arguments : {h : ℕ} {xs : List Expr} {from rest : Input} → ReadsArguments h xs from rest → Counts (row expr) xs from rest
  count-arguments (g.arguments_none is) n = omega arith
  count-arguments (g.arguments_some list) n = count-exprs list n

  count-exprs : {h : ℕ} {xs : List Expr} {from rest : Input} → ReadsExprs h xs from rest → Counts (row expr) xs from rest
  count-exprs (g.exprs_last one) n = count-expr one n
  count-exprs (g.exprs_more {first = x} {mid = mid} one is others) n = omega (arith, count-expr one n, left-next mid, count-exprs others (expr x n).1)

  count-type_name : {h : ℕ} {name : TypeName} {from rest : Input} → ReadsTypeName h name from rest → Counts type_name name from rest
  count-type_name (g.name_plain {specifiers = xs} {from = from} list) n = omega (arith, form.node-TypeName (here from) xs None n, count-specifiers list (n + 1))
  count-type_name (g.name_declared {specifiers = xs} {inner = x} {from = from} list inner) n =
      omega (arith, form.node-TypeName (here from) xs (Some x) n, count-specifiers list (n + 1), count-declarator inner (row specifier xs (n + 1)).1)

  count-specifiers : {typed typedef : Bool} {h : ℕ} {xs : List Specifier} {from rest : Input} → ReadsSpecifiers typed h typedef xs from rest → Spares (row specifier) xs from rest
  count-specifiers (g.specifiers_last one is) n = count-specifier one n
  count-specifiers (g.specifiers_more {first = x} one others) n = omega (arith, count-specifier one n, count-specifiers others (specifier x n).1)

  count-specifier : {typed after typedef : Bool} {h : ℕ} {one : Specifier} {from rest : Input} → ReadsSpecifier typed after h typedef one from rest → Spares specifier one from rest
  count-specifier (g.spec_keyword {from = from} one is) n = omega (arith, no_node (peek from) one is n, took_specifier from is)
  count-specifier (g.spec_name {from = from} is so) n = omega (arith, form.specifier-Typedef (text from) n, left-took from (λ end. cc))
  count-specifier (g.spec_struct_tag {from = from} is so not) n = omega (arith, form.specifier-StructTag (text (next from)) n, left-took from (λ end. cc), left-next (next from))
  count-specifier (g.spec_struct {tag = t} {members = xs} {from = from} {brace = brace} {close = close} is tag so list ends) n =
      omega (arith, form.specifier-Struct t xs n, left-took from (λ end. cc), left-tag tag, left-next brace, count-members list n, left-next close)
  count-specifier (g.spec_enum_tag {from = from} is so not) n = omega (arith, form.specifier-EnumTag (text (next from)) n, left-took from (λ end. cc), left-next (next from))
  count-specifier (g.spec_enum {tag = t} {items = xs} {from = from} {brace = brace} {close = close} is tag so list ends) n =
      omega (arith, form.specifier-Enum t xs n, left-took from (λ end. cc), left-tag tag, left-next brace, count-items list n, left-next close)

  count-members : {h : ℕ} {xs : List Member} {from rest : Input} → ReadsMembers h xs from rest → Counts (row member) xs from rest
  count-members (g.members_last one) n = count-member one n
  count-members (g.members_more {first = x} one others) n = omega (arith, count-member one n, count-members others (member x n).1)

  count-member : {h : ℕ} {one : Member} {from rest : Input} → ReadsMember h one from rest → Counts member one from rest
  count-member (g.member_one {specifiers = xs} {declarators = ys} {from = from} {rest = rest} list fields is) n =
      omega (arith, form.node-Member (here from) xs ys n, count-specifiers list (n + 1), count-fields fields (row specifier xs (n + 1)).1, left-next rest)

  count-fields : {h : ℕ} {xs : List MemberDeclarator} {from rest : Input} → ReadsMemberDeclarators h xs from rest → Counts (row member_declarator) xs from rest
  count-fields (g.fields_last one) n = count-field one n
  count-fields (g.fields_more {first = x} {mid = mid} one is others) n = omega (arith, count-field one n, left-next mid, count-fields others (member_declarator x n).1)

  count-field : {h : ℕ} {one : MemberDeclarator} {from rest : Input} → ReadsMemberDeclarator h one from rest → Counts member_declarator one from rest
  count-field (g.field_plain {inner = x} inner) n = omega (arith, form.field-Plain x n, count-declarator inner n)
  count-field (g.field_width {inner = x} {width = y} {mid = mid} inner is width) n =
      omega (arith, form.field-Field x y n, count-declarator inner n, left-next mid, count-expr width (declarator x n).1)
  count-field (g.field_unnamed {width = y} {from = from} is width) n = omega (arith, form.field-Unnamed y n, left-next from, count-expr width n)

  count-items : {h : ℕ} {xs : List Item} {from rest : Input} → ReadsItems h xs from rest → Counts (row item) xs from rest
  count-items (g.items_last one) n = count-item one n
  count-items (g.items_comma {rest = rest} one is so) n = omega (arith, count-item one n, left-next rest)
  count-items (g.items_more {first = x} {mid = mid} one is others) n = omega (arith, count-item one n, left-next mid, count-items others (item x n).1)

  count-item : {h : ℕ} {one : Item} {from rest : Input} → ReadsItem h one from rest → Counts item one from rest
  count-item (g.item_plain {from = from} is) n =
      omega (arith, form.node-Item (here from) (text from) None n, left-took from (λ end. cc), left-declare (text from) false (next from))
  count-item (g.item_valued {value = x} {from = from} {rest = rest} is so value) n =
      omega (arith, form.node-Item (here from) (text from) (Some x) n, left-took from (λ end. cc), left-next (next from), count-expr value (n + 1), left-declare (text from) false rest)

  count-declarator : {naming : Naming} {level h : ℕ} {one : Declarator} {head : Head} {from rest : Input} → ReadsDeclarator naming level h one head from rest → Counts declarator one from rest
  count-declarator (g.star {qualifiers = qs} {inner = x} {from = from} l is list inner) n =
      omega (
        arith,
        form.node-Declarator (here from) (d.Star qs (Some x)) n,
        form.declarator-Star qs (Some x) (n + 1),
        left-took from (λ end. cc),
        left-qualifiers list,
        count-declarator inner (n + 1),
      )
  count-declarator (g.star_alone {qualifiers = qs} {from = from} l may is list) n =
      omega (arith, form.node-Declarator (here from) (d.Star qs None) n, form.declarator-Star qs None (n + 1), left-took from (λ end. cc), left-qualifiers list)
  count-declarator (g.named {from = from} l may is) n =
      omega (arith, form.node-Declarator (here from) (d.Named (text from)) n, form.declarator-Named (text from) (n + 1), left-took from (λ end. cc))
  count-declarator (g.group {inner = x} {from = from} {close = close} l is may inner so) n =
      omega (arith, form.node-Declarator (here from) (d.Group x) n, form.declarator-Group x (n + 1), left-took from (λ end. cc), count-declarator inner (n + 1), left-next close)
  count-declarator (g.array {inner = x} {size = y} {from = from} {mid = mid} {close = close} l inner is size so) n =
      omega (
        arith,
        form.node-Declarator (here from) (d.ArrayOf (Some x) y) n,
        form.declarator-ArrayOf (Some x) y (n + 1),
        count-declarator inner (n + 1),
        left-took mid (λ end. cc),
        count-size size (declarator x (n + 1)).1,
        left-next close,
      )
  count-declarator (g.array_alone {size = y} {from = from} {close = close} l may is size so) n =
      omega (arith, form.node-Declarator (here from) (d.ArrayOf None y) n, form.declarator-ArrayOf None y (n + 1), left-took from (λ end. cc), count-size size (n + 1), left-next close)
  count-declarator (g.function {inner = x} {parameters = xs} {dots = dots} {from = from} {mid = mid} {close = close} l inner is list so) n =
      omega (
        arith,
        form.node-Declarator (here from) (d.FunctionOf (Some x) xs dots) n,
        form.declarator-FunctionOf (Some x) xs dots (n + 1),
        count-declarator inner (n + 1),
        left-took mid (λ end. cc),
        count-parameters list (declarator x (n + 1)).1,
        left-next close,
        left-leave mid (next close),
      )
  count-declarator (g.function_alone {parameters = xs} {dots = dots} {from = from} {close = close} l may is opens list so) n =
      omega (
        arith,
        form.node-Declarator (here from) (d.FunctionOf None xs dots) n,
        form.declarator-FunctionOf None xs dots (n + 1),
        left-took from (λ end. cc),
        count-parameters list (n + 1),
        left-next close,
        left-leave from (next close),
      )

  count-size : {h : ℕ} {size : Option Expr} {from rest : Input} → ReadsSize h size from rest → Counts (part expr) size from rest
  count-size (g.size_none is) n = omega arith
  count-size (g.size_some one) n = count-expr one n

  count-parameters : {h : ℕ} {xs : List Parameter} {dots : Bool} {from rest : Input} → ReadsParameters h xs dots from rest → Counts (row parameter) xs from rest
  count-parameters (g.parameters_none is) n = omega arith
  count-parameters (g.parameters_some list) n = count-parameter_list list n

  count-parameter_list : {h : ℕ} {xs : List Parameter} {dots : Bool} {from rest : Input} → ReadsParameterList h xs dots from rest → Counts (row parameter) xs from rest
  count-parameter_list (g.parameters_last one) n = count-parameter one n
  count-parameter_list (g.parameters_dots {rest = rest} one is so) n = omega (arith, count-parameter one n, left-next rest, left-next (next rest))
  count-parameter_list (g.parameters_more {first = x} {mid = mid} one is others) n = omega (arith, count-parameter one n, left-next mid, count-parameter_list others (parameter x n).1)

  count-parameter : {h : ℕ} {one : Parameter} {from rest : Input} → ReadsParameter h one from rest → Counts parameter one from rest
  count-parameter (g.parameter_plain {specifiers = xs} {from = from} list) n = omega (arith, form.node-Parameter (here from) xs None n, count-specifiers list (n + 1))
  count-parameter (g.parameter_declared {typedef = typedef} {specifiers = xs} {inner = x} {head = head} {from = from} {rest = rest} list inner) n =
      omega (
        arith,
        form.node-Parameter (here from) xs (Some x) n,
        count-specifiers list (n + 1),
        count-declarator inner (row specifier xs (n + 1)).1,
        left-head head typedef rest,
      )

-- ---- initialisers and declarations

count-designator : {h : ℕ} {one : Designator} {from rest : Input} → ReadsDesignator h one from rest → Counts of_designator one from rest
count-designator (gd.designator_member {from = from} is so) n = omega (arith, left-next from, left-next (next from))
count-designator (gd.designator_index {from = from} {close = close} is at so) n = omega (arith, left-next from, count-expr at n, left-next close)

count-designators : {h : ℕ} {xs : List Designator} {from rest : Input} → ReadsDesignators h xs from rest → Counts (list_of of_designator) xs from rest
count-designators (gd.designators_last one) n = count-designator one n
count-designators (gd.designators_more {first = x} one others) n = omega (arith, count-designator one n, count-designators others (of_designator x n).1)

mutual
  count-init : {h : ℕ} {value : Init} {from rest : Input} → ReadsInit h value from rest → Counts initialiser value from rest
  count-init (gd.init_expr {value = x} value) n = omega (arith, form.init-Expr x n, count-expr value n)
  count-init (gd.init_list {entries = xs} {from = from} {close = close} is entries so) n =
      omega (arith, form.init-List (list_at from xs) n, form.node-InitList (here from) xs n, left-took from (λ end. cc), count-entries entries (n + 1), left-next close)

  count-entries : {h : ℕ} {xs : List Entry} {from rest : Input} → ReadsEntries h xs from rest → Counts (row entry) xs from rest
  count-entries (gd.entries_last one) n = count-entry one n
  count-entries (gd.entries_comma {rest = rest} one is so) n = omega (arith, count-entry one n, left-next rest)
  count-entries (gd.entries_more {first = x} {mid = mid} one is others) n = omega (arith, count-entry one n, left-next mid, count-entries others (entry x n).1)

  count-entry : {h : ℕ} {one : Entry} {from rest : Input} → ReadsEntry h one from rest → Counts entry one from rest
  count-entry (gd.entry_plain {value = x} value) n = omega (arith, form.node-Entry [] x n, count-init value n)
  count-entry (gd.entry_designated {designators = xs} {value = x} {mid = mid} list is value) n =
      omega (arith, form.node-Entry xs x n, count-designators list n, left-next mid, count-init value (list_of of_designator xs n).1)

count-init_declarator : {typedef : Bool} {h : ℕ} {one : InitDeclarator} {from rest : Input} → ReadsInitDeclarator typedef h one from rest → Counts of_init_declarator one from rest
count-init_declarator {typedef} (gd.plain {head = head} {rest = rest} inner) n = omega (arith, count-declarator inner n, left-head head typedef rest)
count-init_declarator {typedef} (gd.initialised {inner = x} {head = head} {mid = mid} inner is value) n =
    omega (arith, count-declarator inner n, left-head head typedef mid, left-next (declare_head head typedef mid), count-init value (declarator x n).1)

count-init_declarators : {typedef : Bool} {h : ℕ} {xs : List InitDeclarator} {from rest : Input} → ReadsInitDeclarators typedef h xs from rest → Counts (list_of of_init_declarator) xs from rest
count-init_declarators (gd.declarators_last one) n = count-init_declarator one n
count-init_declarators (gd.declarators_more {first = x} {mid = mid} one is others) n =
    omega (arith, count-init_declarator one n, left-next mid, count-init_declarators others (of_init_declarator x n).1)

count-declare : {h : ℕ} {one : Declare} {from rest : Input} → ReadsDeclare h one from rest → Counts declare one from rest
count-declare (gd.declare_none {specifiers = xs} {rest = rest} list is) n = omega (arith, same_row specifier xs (n + 1), count-specifiers list (n + 1), left-next rest)
count-declare (gd.declare_some {specifiers = xs} {rest = rest} list declarators is) n =
    omega (arith, same_row specifier xs (n + 1), count-specifiers list (n + 1), count-init_declarators declarators (list_of specifier xs (n + 1)).1, left-next rest)

-- ---- statements and units

-- an expression before a token that is not the end
count-optional : {end : TokenKind} {h : ℕ} {value : Option Expr} {from rest : Input} → (end ≡ k.End → ⊥) → ReadsOptional end h value from rest → Spares (optional_of expr) value from rest
count-optional no_end (gs.optional_none {from = from} is) n = omega (arith, left-took from (λ end. no_end (sym is ∙ end)))
count-optional no_end (gs.optional_some {rest = rest} value is) n = omega (arith, count-expr value n, left-took rest (λ end. no_end (sym is ∙ end)))

count-condition : {h : ℕ} {value : Expr} {from rest : Input} → ReadsCondition h value from rest → Counts expr value from rest
count-condition (gs.condition {from = from} {rest = rest} is value so) n = omega (arith, left-next from, count-expr value n, left-next rest)

count-first : {h : ℕ} {start : ForFirst} {from rest : Input} → ReadsForFirst h start from rest → Counts of_first start from rest
count-first (gs.first_expr is value) n = omega (arith, count-optional (λ end. cc) value n)
count-first (gs.first_declare is one) n = count-declare one n

mutual
  count-stmt : {h : ℕ} {one : Stmt} {from rest : Input} → ReadsStmt h one from rest → Counts statement one from rest
  count-stmt (gs.label {inner = x} {from = from} is so inner) n =
      omega (arith, form.node-Stmt (here from) (s.Label (text from) x) n, form.stmt-Label (text from) x (n + 1), left-took from (λ end. cc), left-next (next from), count-stmt inner (n + 1))
  count-stmt (gs.case {value = x} {inner = y} {from = from} {mid = mid} is value so inner) n =
      omega (
        arith,
        form.node-Stmt (here from) (s.Case x y) n,
        form.stmt-Case x y (n + 1),
        left-took from (λ end. cc),
        count-expr value (n + 1),
        left-next mid,
        count-stmt inner (expr x (n + 1)).1,
      )
  count-stmt (gs.default {inner = x} {from = from} is so inner) n =
      omega (arith, form.node-Stmt (here from) (s.Default x) n, form.stmt-Default x (n + 1), left-took from (λ end. cc), left-next (next from), count-stmt inner (n + 1))
  count-stmt (gs.block {items = xs} {from = from} {close = close} is items so) n =
      omega (
        arith,
        form.node-Stmt (here from) (s.Block xs) n,
        form.stmt-Block xs (n + 1),
        left-took from (λ end. cc),
        count-block_items items (n + 1),
        left-next close,
        left-leave from (next close),
      )
  count-stmt (gs.do_expr {value = x} {from = from} value) n =
      omega (arith, form.node-Stmt (here from) (s.Do x) n, form.stmt-Do x (n + 1), count-optional (λ end. cc) value (n + 1))
  count-stmt (gs.if_alone {value = x} {yes = y} {from = from} {rest = rest} is value inner no_else) n =
      omega (
        arith,
        form.node-Stmt (here from) (s.If x y None) n,
        form.stmt-If x y None (n + 1),
        left-took from (λ end. cc),
        count-condition value (n + 1),
        count-scope inner (expr x (n + 1)).1,
        left-leave from rest,
      )
  count-stmt (gs.if_else {value = x} {yes = y} {no = z} {from = from} {other = other} {rest = rest} is value inner so last) n =
      let after : ℕ = (expr x (n + 1)).1 in
      omega (
        arith,
        form.node-Stmt (here from) (s.If x y (Some z)) n,
        form.stmt-If x y (Some z) (n + 1),
        left-took from (λ end. cc),
        count-condition value (n + 1),
        count-scope inner after,
        left-next other,
        count-scope last (statement y after).1,
        left-leave from rest,
      )
  count-stmt (gs.switch {value = x} {inner = y} {from = from} {rest = rest} is value inner) n =
      omega (
        arith,
        form.node-Stmt (here from) (s.Switch x y) n,
        form.stmt-Switch x y (n + 1),
        left-took from (λ end. cc),
        count-condition value (n + 1),
        count-scope inner (expr x (n + 1)).1,
        left-leave from rest,
      )
  count-stmt (gs.while {value = x} {inner = y} {from = from} {rest = rest} is value inner) n =
      omega (
        arith,
        form.node-Stmt (here from) (s.While x y) n,
        form.stmt-While x y (n + 1),
        left-took from (λ end. cc),
        count-condition value (n + 1),
        count-scope inner (expr x (n + 1)).1,
        left-leave from rest,
      )
  count-stmt (gs.until {value = x} {inner = y} {from = from} {mid = mid} {rest = rest} is inner so value last) n =
      omega (
        arith,
        form.node-Stmt (here from) (s.Until y x) n,
        form.stmt-Until y x (n + 1),
        left-took from (λ end. cc),
        count-scope inner (n + 1),
        left-next mid,
        count-condition value (statement y (n + 1)).1,
        left-next rest,
        left-leave from (next rest),
      )
  count-stmt (gs.for {start = a} {value = x} {step = y} {inner = z} {from = from} {rest = rest} is so start value step inner) n =
      let one : ℕ = (of_first a (n + 1)).1 in
      let two : ℕ = (optional_of expr x one).1 in
      omega (
        arith,
        form.node-Stmt (here from) (s.For a x y z) n,
        form.stmt-For a x y z (n + 1),
        left-took from (λ end. cc),
        left-next (next from),
        count-first start (n + 1),
        count-optional (λ end. cc) value one,
        count-optional (λ end. cc) step two,
        count-scope inner (optional_of expr y two).1,
        left-leave from rest,
      )
  count-stmt (gs.goto {from = from} is so last) n =
      omega (arith, form.node-Stmt (here from) (s.Goto (text (next from))) n, form.stmt-Goto (text (next from)) (n + 1), left-took from (λ end. cc), left-next (next from), left-next (next (next from)))
  count-stmt (gs.continue {from = from} is so) n = omega (arith, form.node-Stmt (here from) s.Continue n, form.stmt-Continue (n + 1), left-took from (λ end. cc), left-next (next from))
  count-stmt (gs.break {from = from} is so) n = omega (arith, form.node-Stmt (here from) s.Break n, form.stmt-Break (n + 1), left-took from (λ end. cc), left-next (next from))
  count-stmt (gs.return {value = x} {from = from} is value) n =
      omega (arith, form.node-Stmt (here from) (s.Return x) n, form.stmt-Return x (n + 1), left-took from (λ end. cc), count-optional (λ end. cc) value (n + 1))

  count-scope : {h : ℕ} {one : Stmt} {from rest : Input} → ReadsScope h one from rest → Counts statement one from rest
  count-scope (gs.scope {from = from} {rest = rest} inner) n = omega (arith, count-stmt inner n, left-leave from rest)

  count-block_items : {h : ℕ} {xs : List BlockItem} {from rest : Input} → ReadsBlockItems h xs from rest → Counts (row block_item) xs from rest
  count-block_items (gs.items_none is) n = omega arith
  count-block_items (gs.items_more {first = x} one others) n = omega (arith, count-block_item one n, count-block_items others (block_item x n).1)

  count-block_item : {h : ℕ} {one : BlockItem} {from rest : Input} → ReadsBlockItem h one from rest → Counts block_item one from rest
  count-block_item (gs.item_declare {declaration = x} is one) n = omega (arith, form.item-Declare x n, count-declare one n)
  count-block_item (gs.item_stmt {inner = x} is inner) n = omega (arith, form.item-Stmt x n, count-stmt inner n)

count-decl : {h : ℕ} {one : Decl} {from rest : Input} → ReadsDecl h one from rest → Counts of_decl one from rest
count-decl (gs.empty {from = from} is) n = omega (arith, left-took from (λ end. cc))
count-decl (gs.declared one) n = count-declare one n
count-decl (gs.function {typedef = typedef} {specifiers = xs} {inner = x} {name = name} {parameters = parameters} {items = items} {body = body} {close = close} list inner is block so) n =
    let one : ℕ = (list_of specifier xs (n + 1)).1 in
    let two : ℕ = (declarator x one).1 in
    let open_ : Input = with_names parameters (input.declare name typedef body) in
    omega (
      arith,
      same_row specifier xs (n + 1),
      count-specifiers list (n + 1),
      count-declarator inner one,
      form.node-Stmt (here body) (s.Block items) two,
      form.stmt-Block items (two + 1),
      left-declare name typedef body,
      left-with_names parameters (input.declare name typedef body),
      left-next open_,
      count-block_items block (two + 1),
      left-took close (λ end. cc),
      left-leave (input.declare name typedef body) (next close),
    )

pub count-unit : {h : ℕ} {xs : List Decl} {from : Input} → ReadsUnit h xs from → (n : ℕ) → (list_of of_decl xs n).1 ≤ n + left from
count-unit (gs.unit_end is) n = omega arith
count-unit (gs.unit_more {first = x} one others) n = omega (arith, count-decl one n, count-unit others (of_decl x n).1)
