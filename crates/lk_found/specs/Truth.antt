-- When what is recorded of the nodes of a source, by their numbers, is true.
use Rattle.std.specs.Prelude.{ℕ, ◌≡◌, ◌⊎◌, Bool, Option, Some, List, length, nat_eq, slice_get}
use Rattle.lk_tree.specs.declared.expression.Specifier.{Specifier, out-Specifier}
use Rattle.lk_typed.specs.Env.{Env, Name}
use Rattle.lk_typed.specs.NodeParts.{parts}
use Rattle.lk_typed.specs.NodeRules.{breaches, hiding, mark_of}
use Rattle.lk_typed.specs.Nodes.{Node, Placed}
use Rattle.lk_typed.specs.Stands.{IsIn, Stands}
use Rattle.lk_typed.specs.Structs.{StandsAmong, specifiers_at, struct_begun}
use Rattle.lk_typed.specs.declared.unit.StructTag.{StructTag}

-- it is so of a node that stands in one of these; `at_end` is the environment behind the whole source
pub record IsSoInside (at_end : Env) (nodes : List Placed) (IsSo : Env → Node → Type 0) : Type 0 where
  pub outer : Placed
  pub among : IsIn outer nodes
  pub env : Env
  pub node : Node
  pub stands : Stands (parts at_end) (breaches at_end) (hiding at_end) mark_of outer.env outer.node env node
  pub is_so : IsSo env node

-- each entry was there before, or is true of a node that stands in one of these
abbrev pub AddsTruth : {V : Type 0} → Env → (ℕ → V → Env → Node → Type 0) → List (ℕ × V) → List Placed →
    List (ℕ × V) → Type 0
AddsTruth {V} at_end IsTrue old nodes new = (n : ℕ) (v : V) → IsIn (n, v) new →
    IsIn (n, v) old ⊎ IsSoInside at_end nodes (IsTrue n v)

-- ---- tags of structs, by the numbers of these (C99 6.7.2.3)

-- the struct with this number begins with this tag, where `begun` says that one begins; at file scope no
-- scope is open yet (C99 6.2.1, 4)
pub record IsBegunBy (begun : Option (Option Name)) (env : Env) (s : ℕ) (tag : StructTag) : Type 0 where
  pub begins : begun ≡ Some tag.tag
  pub number : length env.structs ≡ s
  pub outside : tag.is_outside ≡ nat_eq env.base 0

-- it begins at one of these specifiers
pub record IsBegunAmong (alone : Bool) (env : Env) (ss : List Specifier) (s : ℕ)
    (tag : StructTag) : Type 0 where
  pub env' : Env
  pub specifier : Specifier
  pub among : StandsAmong alone env ss env' specifier
  pub begun : IsBegunBy (struct_begun env' alone (out-Specifier specifier)) env' s tag

-- it begins at one of the specifiers of a node
abbrev pub IsOfTag : ℕ → StructTag → Env → Node → Type 0
IsOfTag s tag env node = IsBegunAmong (specifiers_at node).alone env (specifiers_at node).list s tag

abbrev pub NoTag : ℕ → StructTag → Type 0
NoTag s tag = ⊥

-- each tag was there before, is one of a struct that begins at a node in these, or one of these others
abbrev pub AddsTags : (ℕ → StructTag → Type 0) → Env → List StructTag → List Placed → List StructTag → Type 0
AddsTags Own at_end old nodes new = (s : ℕ) (tag : StructTag) → slice_get new s ≡ Some tag →
    (slice_get old s ≡ Some tag) ⊎ (IsSoInside at_end nodes (IsOfTag s tag) ⊎ Own s tag)
