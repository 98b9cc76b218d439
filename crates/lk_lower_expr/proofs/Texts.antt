-- The operands of `printf` that are read as texts.
use Rattle.std.proofs.Common.{sym, ap, ◌∙◌, ◌≡◌, ◌+◌, ◌<◌, refl, ℕ, Bool, true, false, List, add-one, drop, get_or}
use Rattle.std.proofs.Math.Dec.{eqb-suc-zero}
use Rattle.std.specs.Prelude.{if◌then◌else◌, length, map, suc, [], ◌∷◌, None}
use Rattle.lk_lower_expr.proofs.Chosen.{texts_counted, type_of}
use Rattle.lk_lower_expr.proofs.Operands.{from_index}
use Rattle.lk_lower_expr.specs.Counts.{on_by, text_count}
use Rattle.lk_lower_expr.specs.Library.{is_text, on_to, scan, scans, texts_of}
use Rattle.lk_lower_expr.specs.Names.{Names, Node}
use Rattle.lk_lower_expr.specs.Naming.{at_of, names_of, part_in}
use Rattle.lk_lower_expr.specs.Parts.{Part}
use Rattle.lk_lower_expr.specs.declared.names.SourceNames.{SourceNames}
use Rattle.lk_typed.specs.declared.expression.TypedExpr.{TypedExpr}
use Rattle.lk_types.specs.Table.{Table, type_at}

goes_by : (names : Names) (node : Node) (k : ℕ) (texts : List Part) (on : ℕ) → on_to names node k texts on ≡ on_by (length texts) (names.at node.ordinal k) on
goes_by names node k [] on = refl
goes_by names node k (a ∷ others) on = rw (eqb-suc-zero (length others)) refl

module _ (table : Table) (source : SourceNames) (node : Node) where
  abbrev pub texts : List TypedExpr → List Part
  texts es = texts_of (names_of table source) (map (part_in table source) es)

  -- where control goes on before these operands
  pub goes_on : (k : ℕ) (es : List TypedExpr) (on : ℕ) →
      on_by (text_count table es) (at_of source node.ordinal k) on ≡ on_to (names_of table source) node k (texts es) on
  goes_on k es on = sym (goes_by (names_of table source) node k (texts es) on ∙ ap (λ n. on_by n (at_of source node.ordinal k) on) (texts_counted table source es))

  as_taken : (test : Bool) (x : Part) (xs : List Part) → test ≡ true → (if test then x ∷ xs else xs) ≡ x ∷ xs
  as_taken test x xs is = rw is refl

  as_left : (test : Bool) (x : Part) (xs : List Part) → test ≡ false → (if test then x ∷ xs else xs) ≡ xs
  as_left test x xs is = rw is refl

  typed : (e : TypedExpr) → is_text (type_at table (part_in table source e).node.type) ≡ is_text (type_at table e.ty)
  typed e = ap (λ t. is_text (type_at table t)) (type_of (names_of table source) e)

  -- an operand of another type is left out
  text_left : (e : TypedExpr) (es : List TypedExpr) → is_text (type_at table e.ty) ≡ false → texts (e ∷ es) ≡ texts es
  text_left e es is = as_left _ _ _ (typed e ∙ is)

  -- a text is read, and then the others
  text_read : (e : TypedExpr) (es : List TypedExpr) (k on : ℕ) → is_text (type_at table e.ty) ≡ true →
      scans (names_of table source) node k (texts (e ∷ es)) on ≡
      scan (names_of table source) (part_in table source e) None (on_by (text_count table es) (at_of source node.ordinal (suc k)) on) ∷
      scans (names_of table source) node (suc k) (texts es) on
  text_read e es k on is = ap (λ ts. scans (names_of table source) node k ts on) (as_taken _ _ _ (typed e ∙ is)) ∙
      ap (λ next. scan (names_of table source) (part_in table source e) None next ∷ scans (names_of table source) node (suc k) (texts es) on) (sym (goes_on (suc k) es on))

  count_taken : (test : Bool) (n : ℕ) → test ≡ true → (if test then suc n else n) ≡ suc n
  count_taken test n is = rw is refl

  count_left : (test : Bool) (n : ℕ) → test ≡ false → (if test then suc n else n) ≡ n
  count_left test n is = rw is refl

  -- at an index of the operands
  pub left_at : (es : List TypedExpr) (i : ℕ) (e : TypedExpr) → i < length es → e ≡ get_or es i e → is_text (type_at table e.ty) ≡ false →
      text_count table (drop i es) ≡ text_count table (drop (i + 1) es)
  left_at es i e inside there is = ap (text_count table) (from_index es i e inside there) ∙ count_left _ _ is

  pub texts_left_at : (es : List TypedExpr) (i : ℕ) (e : TypedExpr) → i < length es → e ≡ get_or es i e → is_text (type_at table e.ty) ≡ false →
      texts (drop i es) ≡ texts (drop (i + 1) es)
  texts_left_at es i e inside there is = ap texts (from_index es i e inside there) ∙ text_left e _ is

  pub read_at : (es : List TypedExpr) (i : ℕ) (e : TypedExpr) → i < length es → e ≡ get_or es i e → is_text (type_at table e.ty) ≡ true →
      text_count table (drop i es) ≡ suc (text_count table (drop (i + 1) es))
  read_at es i e inside there is = ap (text_count table) (from_index es i e inside there) ∙ count_taken _ _ is

  texts_read_at : (es : List TypedExpr) (i : ℕ) (e : TypedExpr) (k on : ℕ) → i < length es → e ≡ get_or es i e → is_text (type_at table e.ty) ≡ true →
      scans (names_of table source) node k (texts (drop i es)) on ≡
      scan (names_of table source) (part_in table source e) None (on_by (text_count table (drop (i + 1) es)) (at_of source node.ordinal (suc k)) on) ∷
      scans (names_of table source) node (suc k) (texts (drop (i + 1) es)) on
  texts_read_at es i e k on inside there is =
      ap (λ ds. scans (names_of table source) node k (texts ds) on) (from_index es i e inside there) ∙ text_read e _ k on is

  -- the read at an index, and those behind it, as the loop counts them
  pub read_on : (es : List TypedExpr) (i : ℕ) (e : TypedExpr) (k on to left next : ℕ) → i < length es → e ≡ get_or es i e → is_text (type_at table e.ty) ≡ true →
      to ≡ k + 1 → left ≡ text_count table (drop (i + 1) es) → next ≡ on_by left (at_of source node.ordinal to) on →
      scans (names_of table source) node k (texts (drop i es)) on ≡
      scan (names_of table source) (part_in table source e) None next ∷ scans (names_of table source) node to (texts (drop (i + 1) es)) on
  read_on es i e k on to left next inside there is counts lefts nexts =
      texts_read_at es i e k on inside there is ∙
      ap (λ n. scan (names_of table source) (part_in table source e) None (on_by (text_count table (drop (i + 1) es)) (at_of source node.ordinal n) on) ∷
      scans (names_of table source) node n (texts (drop (i + 1) es)) on) (sym (add-one k) ∙ sym counts) ∙
      ap (λ n. scan (names_of table source) (part_in table source e) None n ∷ scans (names_of table source) node to (texts (drop (i + 1) es)) on)
      (sym (nexts ∙ ap (λ n. on_by n (at_of source node.ordinal to) on) lefts))
