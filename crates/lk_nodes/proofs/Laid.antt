-- Nodes whose numbers are laid in ranges, each part behind the part before it: no two of them have one number, unless one is the only part of the other.
use Rattle.std.proofs.Common.{◌≡◌, ◌∙◌, ◌≤◌, ◌<◌, ◌+◌, inl, inr, ℕ, List, [], ◌∷◌, ◌++◌, Option, Some, None, refl, sym, ap, subst, arith}
use Rattle.lk_tree.specs.declared.declaration.Entry.{Entry}
use Rattle.lk_tree.specs.declared.declaration.Init.TheOpen.{Init-F}
use Rattle.lk_tree.specs.declared.declaration.Init.{Init, out-Init}
use Rattle.lk_tree.specs.declared.declaration.InitList.{InitList, out-InitList}
use Rattle.lk_tree.specs.declared.expression.Expr.{Expr}
use Rattle.lk_tree.specs.declared.statement.Decl.TheVariants as decl
use Rattle.lk_typed.specs.DeclarationRules.{AtFile}
use Rattle.lk_typed.specs.Env.{Env}
use Rattle.lk_typed.specs.Expressions.{expr_word}
use Rattle.lk_typed.specs.InitialiserRules.{Object}
use Rattle.lk_typed.specs.Initialisers.{as_initialiser, parts_of_init, unless_word}
use Rattle.lk_typed.specs.NodeParts.{parts}
use Rattle.lk_typed.specs.NodeRules.{breaches, hiding, init_mark, mark_of}
use Rattle.lk_typed.specs.Nodes.{Node, AnExternal, ADeclaration, ADefinition, AMember, AnItem, AParameter, ATypeName, ADeclarator, AnInitialiser, AStatement, AnExpression, Placed, at}
use Rattle.lk_typed.specs.Stands as stands
use Rattle.lk_typed.specs.Stands.{IsIn}
use Rattle.lk_typed.specs.Stands.Stands.{here, inside}
use Rattle.lk_typed.specs.Ty.{Ty}
use Rattle.lk_nodes.specs.Kinds.{Kind, External, Declaration, Definition, Member, Item, Parameter, TypeName, Declarator, Initialiser, Statement, Expression, kind_of, number_of}

-- kinds by number
abbrev pub place : Kind → ℕ
place External = 0
place Declaration = 1
place Definition = 2
place Member = 3
place Item = 4
place Parameter = 5
place TypeName = 6
place Declarator = 7
place Initialiser = 8
place Statement = 9
place Expression = 10

-- the least number that a part of an initialiser may have
abbrev pub init_inner_from : Init-F Init Entry InitList → ℕ
init_inner_from (Init-F.Expr e) = e.ordinal
init_inner_from (Init-F.List entries) = (out-InitList entries).ordinal + 1

-- the least number that a part of a node may have
abbrev pub inner_from : Node → ℕ
inner_from (AnExternal d) = number_of (AnExternal d)
inner_from (ADeclaration scope node) = node.ordinal + 1
inner_from (ADefinition node) = node.ordinal + 1
inner_from (AMember before m) = number_of (AMember before m) + 1
inner_from (AnItem before i) = number_of (AnItem before i) + 1
inner_from (AParameter lone p) = number_of (AParameter lone p) + 1
inner_from (ATypeName n) = number_of (ATypeName n) + 1
inner_from (ADeclarator left d) = number_of (ADeclarator left d) + 1
inner_from (AnInitialiser object init) = init_inner_from (out-Init init)
inner_from (AStatement around s) = number_of (AStatement around s) + 1
inner_from (AnExpression e) = number_of (AnExpression e) + 1

module _ (at_end : Env) where
  -- a node stands in another, where this is the environment behind the whole source
  abbrev pub StandsIn : Env → Node → Env → Node → Type 0
  StandsIn = stands.Stands (parts at_end) (breaches at_end) (hiding at_end) mark_of

  mutual
    -- the number of a node is the first or a later one, and its parts are laid from there on up to the last
    pub data Laid : ℕ → Env → Node → ℕ → Type 0 where
      laid : {n m : ℕ} {env : Env} {node : Node} → n ≤ number_of node → number_of node < m → InTurn (inner_from node) (parts at_end env node) m → Laid n env node m

    -- nodes are laid one behind the other
    pub data InTurn : ℕ → List Placed → ℕ → Type 0 where
      nil : {n m : ℕ} → n ≤ m → InTurn n [] m
      next : {n k m : ℕ} {part : Placed} {others : List Placed} → Laid n part.env part.node k → InTurn k others m → InTurn n (part ∷ others) m

  -- ---- ranges

  -- a range of nodes may begin before the first
  pub from : {k n m : ℕ} {ps : List Placed} → k ≤ n → InTurn n ps m → InTurn k ps m
  from before (nil rises) = nil (omega (arith, before, rises))
  from before (next (laid low high inner) others) = next (laid (omega (arith, before, low)) high inner) others

  -- nodes, then others
  pub both : {n k m : ℕ} {ps qs : List Placed} → InTurn n ps k → InTurn k qs m → InTurn n (ps ++ qs) m
  both (nil rises) others = from rises others
  both (next first inner) others = next first (both inner others)

  -- the last number is no less than the first
  pub rising : {n m : ℕ} {ps : List Placed} → InTurn n ps m → n ≤ m
  rising (nil rises) = rises
  rising (next (laid low high inner) others) = let rest = rising others in omega (arith, low, high, rest)

  -- the parts of an initialiser have its number or greater ones
  init_inner_behind : (x : Init-F Init Entry InitList) → (init_mark x).ordinal ≤ init_inner_from x
  init_inner_behind (Init-F.Expr e) = omega arith
  init_inner_behind (Init-F.List entries) = omega arith

  -- the parts of a node have its number or greater ones
  inner_behind : (node : Node) → number_of node ≤ inner_from node
  inner_behind (AnExternal d) = omega arith
  inner_behind (ADeclaration scope node) = omega arith
  inner_behind (ADefinition node) = omega arith
  inner_behind (AMember before m) = omega arith
  inner_behind (AnItem before i) = omega arith
  inner_behind (AParameter lone p) = omega arith
  inner_behind (ATypeName n) = omega arith
  inner_behind (ADeclarator left d) = omega arith
  inner_behind (AnInitialiser object init) = init_inner_behind (out-Init init)
  inner_behind (AStatement around s) = omega arith
  inner_behind (AnExpression e) = omega arith

  mutual
    -- what stands in a node has a number in its range
    pub within : {n m : ℕ} {env env' : Env} {node node' : Node} → Laid n env node m → StandsIn env node env' node' → (n ≤ number_of node') × (number_of node' < m)
    within (laid low high inner) here = (low, high)
    within (laid {node = node} low high inner) (inside part is stands) =
        let behind = inner_behind node in let bounds = within_parts inner part is stands in (omega (arith, low, behind, bounds.0), bounds.1)

    -- what stands in nodes laid one behind the other has a number in their range
    pub within_parts : {n m : ℕ} {ps : List Placed} {env' : Env} {node' : Node} → InTurn n ps m → (part : Placed) → IsIn part ps → StandsIn part.env part.node env' node' →
        (n ≤ number_of node') × (number_of node' < m)
    within_parts (nil rises) part is stands = absurd is
    within_parts {env' = env'} {node' = node'} (next first others) part (inl same) stands =
        let bounds = within first (subst (λ (p : Placed). StandsIn p.env p.node env' node') same stands) in
        let rest = rising others in
        (bounds.0, omega (arith, bounds.1, rest))
    within_parts (next (laid low high inner) others) part (inr is) stands =
        let bounds = within_parts others part is stands in (omega (arith, low, high, bounds.0), bounds.1)

  -- ---- two nodes

  -- a node is laid somewhere
  pub data IsLaid (env : Env) (node : Node) : Type 0 where
    is_laid : {n m : ℕ} → Laid n env node m → IsLaid env node

  -- the parts of a node that is laid are laid one behind the other
  pub inner_of : {env : Env} {node : Node} → IsLaid env node → (n : ℕ) × (m : ℕ) × (n ≡ inner_from node) × InTurn n (parts at_end env node) m
  inner_of (is_laid (laid low high inner)) = (_, _, refl, inner)

  -- of nodes laid one behind the other, two in which one number stands are one
  pub same_part : {n m : ℕ} {ps : List Placed} {env env' : Env} {node node' : Node} → InTurn n ps m →
      (p : Placed) → IsIn p ps → StandsIn p.env p.node env node → (q : Placed) → IsIn q ps → StandsIn q.env q.node env' node' → number_of node ≡ number_of node' →
      (p ≡ q) × IsLaid p.env p.node
  same_part (nil rises) p ip s q iq t is = absurd ip
  same_part (next {part = part} first others) p (inl same) s q (inl alike) t is = (same ∙ sym alike, subst (λ (p : Placed). IsLaid p.env p.node) (sym same) (is_laid first))
  same_part {env = env} {node = node} (next first others) p (inl same) s q (inr iq) t is =
      let low = within first (subst (λ (p : Placed). StandsIn p.env p.node env node) same s) in
      let high = within_parts others q iq t in
      absurd (omega (arith, low.1, high.0, is))
  same_part {env' = env'} {node' = node'} (next first others) p (inr ip) s q (inl alike) t is =
      let low = within first (subst (λ (p : Placed). StandsIn p.env p.node env' node') alike t) in
      let high = within_parts others p ip s in
      absurd (omega (arith, low.1, high.0, is))
  same_part (next first others) p (inr ip) s q (inr iq) t is = same_part others p ip s q iq t is

  -- ---- a node that has the number of its part

  -- the part of a node with its number: of another kind, and with a number of its own
  record PartNumbers (node : Node) (part : Placed) : Type 0 where
    kinds : kind_of node ≡ kind_of part.node → ⊥
    own : inner_from part.node ≡ number_of part.node + 1

  -- a node has a number of its own, or that of its part
  data Numbering (node : Node) : Type 0 where
    by_itself : inner_from node ≡ number_of node + 1 → Numbering node
    by_part : ((env : Env) (part : Placed) → IsIn part (parts at_end env node) → PartNumbers node part) → Numbering node

  -- what holds of one part holds of each of a list of that one
  part_numbers : (node : Node) (p part : Placed) → IsIn part (p ∷ []) → PartNumbers node p → PartNumbers node part
  part_numbers node p part (inl same) is = subst (PartNumbers node) (sym same) is
  part_numbers node p part (inr nowhere) is = absurd nowhere

  -- an initialiser has the number of its expression, or its own where it is a list
  numbering_of_init : (object : Option Object) (init : Init) (x : Init-F Init Entry InitList) → out-Init init ≡ x → Numbering (AnInitialiser object init)
  numbering_of_init object init (Init-F.Expr e) is = by_part (λ env part among.
      part_numbers_of_word (expr_word e env) (as_initialiser object env) e part (subst (λ x. IsIn part (parts_of_init object env x)) is among))
    where
      part_numbers_of_word : (word : Option Ty) (env : Env) (e : Expr) (part : Placed) → IsIn part (unless_word word (at env (AnExpression e) ∷ [])) → PartNumbers (AnInitialiser object init) part
      part_numbers_of_word None env e part among = part_numbers (AnInitialiser object init) (at env (AnExpression e)) part among (record { kinds = λ same. omega (arith, ap place same); own = refl })
      part_numbers_of_word (Some word) env e part among = absurd among
  numbering_of_init object init (Init-F.List entries) is = by_itself (ap init_inner_from is ∙ ap (λ x. (init_mark x).ordinal + 1) (sym is))

  -- each node has a number of its own, or that of its part
  numbering : (node : Node) → Numbering node
  numbering (AnExternal (decl.Function node)) = by_part (λ env part among. part_numbers (AnExternal (decl.Function node)) (at env (ADefinition node)) part among (record { kinds = λ same. omega (arith, ap place same); own = refl }))
  numbering (AnExternal (decl.Declare node)) = by_part (λ env part among. part_numbers (AnExternal (decl.Declare node)) (at env (ADeclaration AtFile node)) part among (record { kinds = λ same. omega (arith, ap place same); own = refl }))
  numbering (AnExternal (decl.Empty node)) = by_part (λ env part among. absurd among)
  numbering (ADeclaration scope node) = by_itself refl
  numbering (ADefinition node) = by_itself refl
  numbering (AMember before m) = by_itself refl
  numbering (AnItem before i) = by_itself refl
  numbering (AParameter lone p) = by_itself refl
  numbering (ATypeName n) = by_itself refl
  numbering (ADeclarator left d) = by_itself refl
  numbering (AnInitialiser object init) = numbering_of_init object init (out-Init init) refl
  numbering (AStatement around s) = by_itself refl
  numbering (AnExpression e) = by_itself refl

  -- a node with a number of its own: what stands in its parts has greater numbers
  pub greater : {env env' : Env} {node node' : Node} → IsLaid env node → inner_from node ≡ number_of node + 1 → (part : Placed) → IsIn part (parts at_end env node) →
      StandsIn part.env part.node env' node' → number_of node < number_of node'
  greater (is_laid (laid low high inner)) own part is stands = let bounds = within_parts inner part is stands in omega (arith, own, bounds.0)

  -- the parts of a node that is laid are laid, behind its number
  pub part_laid : {env : Env} {node : Node} → IsLaid env node → (part : Placed) → IsIn part (parts at_end env node) → (number_of node ≤ number_of part.node) × IsLaid part.env part.node
  part_laid (is_laid (laid {node = node} low high inner)) part is =
      let bounds = within_parts inner part is here in let behind = inner_behind node in (omega (arith, behind, bounds.0), (same_part inner part is here part is here refl).1)

  -- a node that stands in a part of another isn't of its kind with its number
  not_inside : {env env' : Env} {node node' : Node} → IsLaid env node → (part : Placed) → IsIn part (parts at_end env node) → StandsIn part.env part.node env' node' →
      kind_of node ≡ kind_of node' → number_of node ≡ number_of node' → ⊥
  not_inside {env} {env'} {node} {node'} is_so part is stands kinds numbers = by (numbering node) stands kinds numbers
    where
      by : {env' : Env} {node' : Node} → Numbering node → StandsIn part.env part.node env' node' → kind_of node ≡ kind_of node' → number_of node ≡ number_of node' → ⊥
      by (by_itself numbered) stands kinds numbers = let after = greater is_so numbered part is stands in omega (arith, after, numbers)
      by (by_part told) here kinds numbers = (told env part is).kinds kinds
      by (by_part told) (inside other among stands) kinds numbers =
          let laid_there = part_laid is_so part is in
          let after = greater laid_there.1 (told env part is).own other among stands in
          omega (arith, laid_there.0, after, numbers)

  -- two nodes of one kind with one number, in one node that is laid, are one
  pub one : {env e e' : Env} {node n n' : Node} → IsLaid env node → StandsIn env node e n → StandsIn env node e' n' → kind_of n ≡ kind_of n' → number_of n ≡ number_of n' →
      at e n ≡ at e' n'
  one laid_so here here kinds numbers = refl
  one laid_so here (inside q iq t) kinds numbers = absurd (not_inside laid_so q iq t kinds numbers)
  one laid_so (inside p ip s) here kinds numbers = absurd (not_inside laid_so p ip s (sym kinds) (sym numbers))
  one {e' = e'} {n' = n'} (is_laid (laid low high inner)) (inside p ip s) (inside q iq t) kinds numbers =
      let same = same_part inner p ip s q iq t numbers in
      one same.1 s (subst (λ (p : Placed). StandsIn p.env p.node e' n') (sym same.0) t) kinds numbers

  -- ---- the node whose part one is

  -- a part of a node that stands in another stands there too
  pub lower : {env e : Env} {node n : Node} → StandsIn env node e n → (part : Placed) → IsIn part (parts at_end e n) → StandsIn env node part.env part.node
  lower here part is = inside part is here
  lower (inside p ip s) part is = inside p ip (lower s part is)

  -- a node isn't a part of what stands in it
  not_below : {env e : Env} {node n : Node} → IsLaid env node → StandsIn env node e n → (part : Placed) → IsIn part (parts at_end e n) →
      kind_of node ≡ kind_of part.node → number_of node ≡ number_of part.node → ⊥
  not_below laid_so here part is kinds numbers = not_inside laid_so part is here kinds numbers
  not_below laid_so (inside p ip s) part is kinds numbers = not_inside laid_so p ip (lower s part is) kinds numbers

  -- two nodes of one kind with one number are parts of one node
  pub one_above : {env e e' : Env} {node n n' : Node} → IsLaid env node → StandsIn env node e n → (p : Placed) → IsIn p (parts at_end e n) →
      StandsIn env node e' n' → (q : Placed) → IsIn q (parts at_end e' n') → kind_of p.node ≡ kind_of q.node → number_of p.node ≡ number_of q.node → at e n ≡ at e' n'
  one_above laid_so here p ip here q iq kinds numbers = refl
  one_above {e' = e'} {n' = n'} (is_laid (laid low high inner)) here p ip (inside r ir t) q iq kinds numbers =
      let same = same_part inner p ip here r ir (lower t q iq) numbers in
      absurd (not_below same.1 (subst (λ (p : Placed). StandsIn p.env p.node e' n') (sym same.0) t) q iq kinds numbers)
  one_above {e = e} {n = n} (is_laid (laid low high inner)) (inside r ir s) p ip here q iq kinds numbers =
      let same = same_part inner q iq here r ir (lower s p ip) (sym numbers) in
      absurd (not_below same.1 (subst (λ (p : Placed). StandsIn p.env p.node e n) (sym same.0) s) p ip (sym kinds) (sym numbers))
  one_above {e' = e'} {n' = n'} (is_laid (laid low high inner)) (inside r ir s) p ip (inside u iu t) q iq kinds numbers =
      let same = same_part inner r ir (lower s p ip) u iu (lower t q iq) numbers in
      one_above same.1 s p ip (subst (λ (p : Placed). StandsIn p.env p.node e' n') (sym same.0) t) q iq kinds numbers

  -- what stands in a node that is laid is laid
  pub laid_inside : {env e : Env} {node n : Node} → IsLaid env node → StandsIn env node e n → IsLaid e n
  laid_inside laid_so here = laid_so
  laid_inside laid_so (inside p ip s) = laid_inside (part_laid laid_so p ip).1 s

  -- it has the number of the node or a greater one
  pub not_less : {env e : Env} {node n : Node} → IsLaid env node → StandsIn env node e n → number_of node ≤ number_of n
  not_less (is_laid (laid low high inner)) s = (within (laid (omega arith) high inner) s).0
