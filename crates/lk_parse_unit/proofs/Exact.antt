-- The reader of units is exact: it reads the tree of the tokens where it is not too deep, and its refusals tell why there is none.
use Rattle.std.proofs.Common.{◌≡◌, ◌≢◌, ℕ, ◌≤◌, max, ◌⊎◌, inl, inr, List, [], drop, Ok, Err, refl, sym, ap, subst, ◌∙◌, arith}
use Rattle.lk_base.specs.declared.code.Code.{Code}
use Rattle.lk_base.specs.declared.code.Code.TheVariants as code
use Rattle.lk_base.specs.declared.fault.Fault.{Fault}
use Rattle.lk_base.specs.declared.fault.Fault.TheVariants as fault
use Rattle.lk_base.specs.declared.refusal.Refusal.{Refusal}
use Rattle.lk_base.specs.declared.spot.Spot.{Spot}
use Rattle.lk_lex.specs.declared.token.Token.{Token}
use Rattle.lk_tree.specs.declared.statement.Decl.{Decl}
use Rattle.lk_tree.specs.declared.statement.Unit as tree
use Rattle.lk_tree.specs.Numbers.{numbered}
use Rattle.lk_parse_expr.specs.declared.found.Found.{Found}
use Rattle.lk_parse_expr.specs.Input.{Input, spot_of, here}
use Rattle.lk_parse_expr.specs.Readers.{Outcome}
use Rattle.lk_parse_expr.specs.Statements.{ReadsUnit}
use Rattle.lk_parse_expr.proofs.Steps.{Answers, fits, deep}
use Rattle.lk_parse_expr.proofs.Yielding.{Yields, Has}
use Rattle.lk_parse_unit.specs.Reading.{unit}
use Rattle.lk_parse_unit.specs.Parsing.{IsRefusal, IsRefused}
use Rattle.lk_parse_unit.specs.Tree.{IsTree, HasOneTree, start}
use Rattle.lk_parse_unit.proofs.Complete.{unit_read}
use Rattle.lk_parse_unit.proofs.Placing.{IsPlaced, syntax_there, deep_there, Places, unit_at}
use Rattle.lk_parse_unit.proofs.Sound.{unit_has}

tree_of : Outcome (Found (List Decl)) → List Decl
tree_of (Ok p) = p.0.tree
tree_of (Err e) = []

one_list : {g h : ℕ} {a b : List Decl} {from : Input} → ReadsUnit g a from → ReadsUnit h b from → a ≡ b
unfolding tree_of
one_list {g} {h} {a} {b} {from} x y = by (unit_read (max g h) x) (unit_read (max g h) y)
  where
    by : (rest : Input) × Answers (max g h) g a rest (unit (max g h) from) → (rest : Input) × Answers (max g h) h b rest (unit (max g h) from) → a ≡ b
    by (i, fits room same is) (j, fits more also so) = ap tree_of (sym is ∙ so)
    by (i, deep past k is) y = absurd (omega arith)
    by (i, fits room same is) (j, deep past k so) = absurd (omega arith)

pub one_tree : HasOneTree
one_tree m n source tokens a b x y = x.ordinals ∙ ap (λ list. numbered (record { externals = list })) (one_list x.reads y.reads) ∙ sym y.ordinals

-- what was read is the tree, once it is numbered
pub read_tree : (most : ℕ) (source : List ℕ) (tokens : List Token) (list : Found (List Decl)) (rest : Input) → unit most (start source tokens) ≡ Ok (list, rest)
    → IsTree most source tokens (numbered (record { externals = list.tree }))
read_tree most source tokens list rest is = let has = subst (Yields (Has most (λ h list rest. ReadsUnit h list (start source tokens)))) is (unit_has most (start source tokens)) in
    record { depth = has.depth; externals = list.tree; reads = has.reads; within = (let a = has.all in omega arith); ordinals = refl }

code_of_fault : Fault → Code
code_of_fault (fault.Refused refusal) = refusal.code
code_of_fault fault.NoMemory = code.Byte

spot_of_fault : Fault → Spot
spot_of_fault (fault.Refused refusal) = refusal.spot
spot_of_fault fault.NoMemory = spot_of []

name_of_fault : Fault → List ℕ
name_of_fault (fault.Refused refusal) = refusal.name
name_of_fault fault.NoMemory = []

fault_of : Outcome (Found (List Decl)) → Fault
fault_of (Ok p) = fault.NoMemory
fault_of (Err e) = e

-- a refusal by its code, its place and its name
record IsTold (tokens : List Token) (refusal : Refusal) : Type 0 where
  cause : (refusal.code ≡ code.Syntax) ⊎ (refusal.code ≡ code.TooDeep)
  place : (n : ℕ) × (refusal.spot ≡ spot_of (drop n tokens))
  nameless : refusal.name ≡ []

told : (from : Input) (e : Fault) (refusal : Refusal) → IsPlaced from e → e ≡ fault.Refused refusal → IsTold from.tokens refusal
unfolding code_of_fault spot_of_fault name_of_fault here
told from _ refusal (syntax_there i at) same =
    let so = sym same in
    record { cause = inl (ap code_of_fault so); place = (at.0, ap spot_of_fault so ∙ ap spot_of at.1); nameless = ap name_of_fault so }
told from _ refusal (deep_there i at) same =
    let so = sym same in
    record { cause = inr (ap code_of_fault so); place = (at.0, ap spot_of_fault so ∙ ap spot_of at.1); nameless = ap name_of_fault so }

-- what a refusal tells
pub refusal_tells : (most : ℕ) (source : List ℕ) (tokens : List Token) (refusal : Refusal) → unit most (start source tokens) ≡ Err (fault.Refused refusal)
    → IsRefusal most source tokens refusal
unfolding code_of_fault fault_of
refusal_tells most source tokens refusal is = record { cause = known.cause; none = none_; deeper = deeper_; place = known.place; nameless = known.nameless }
  where
    known : IsTold tokens refusal
    known = told (start source tokens) (fault.Refused refusal) refusal (subst (Places (start source tokens)) is (unit_at (start source tokens) most (start source tokens) (0, refl))) refl

    none_by : (h : ℕ) (list : List Decl) → h ≤ most → (rest : Input) × Answers most h list rest (unit most (start source tokens)) → ⊥
    none_by h list within (rest, fits room same so) = let e : fault.Refused refusal ≡ fault.NoMemory = ap fault_of (sym is ∙ so) in cc
    none_by h list within (rest, deep past j so) = absurd (omega arith)

    none_ : (u : tree.Unit) → IsTree most source tokens u → ⊥
    none_ u t = none_by t.depth t.externals t.within (unit_read most t.reads)

    deeper_by : (h : ℕ) (list : List Decl) → refusal.code ≡ code.Syntax → (rest : Input) × Answers most h list rest (unit most (start source tokens)) → ⊥
    deeper_by h list syntax (rest, fits room same so) = let e : fault.Refused refusal ≡ fault.NoMemory = ap fault_of (sym is ∙ so) in cc
    deeper_by h list syntax (rest, deep past j so) =
        let e : refusal.code ≡ code.TooDeep = ap code_of_fault (ap fault_of (sym is ∙ so)) in
        let f : code.Syntax ≡ code.TooDeep = sym syntax ∙ e in cc

    deeper_ : refusal.code ≡ code.Syntax → (n : ℕ) (u : tree.Unit) → IsTree n source tokens u → ⊥
    deeper_ syntax n u t = deeper_by t.depth t.externals syntax (unit_read most t.reads)

pub refused : (most : ℕ) (source : List ℕ) (tokens : List Token) (e : Fault) → (e ≢ fault.NoMemory → unit most (start source tokens) ≡ Err e) → IsRefused most source tokens e
refused most source tokens (fault.Refused refusal) so = refusal_tells most source tokens refusal (so (λ same. cc))
refused most source tokens fault.NoMemory so = tt
