-- What nodes declare that stand inside others.
use Rattle.std.proofs.Common.{◌⊎◌, ◌++◌, inl, inr, List, [], ◌∷◌, refl, subst}
use Rattle.lk_tree.specs.declared.statement.Unit.{Unit}
use Rattle.lk_typed.specs.Entities.{StandsIn}
use Rattle.lk_typed.specs.Env.{Env, Name}
use Rattle.lk_typed.specs.NodeParts.{parts}
use Rattle.lk_typed.specs.Nodes.{Node, Placed, at}
use Rattle.lk_typed.specs.Stands.{IsIn}
use Rattle.lk_typed.specs.Stands.Stands.{here, inside}
use Rattle.lk_typed.specs.Units.{IsNode, at_end}
use Rattle.lk_typed.specs.Units.IsNode.{node_of}
use Rattle.lk_elaborate.proofs.Carried.{in_first, in_rest}
use Rattle.lk_elaborate.proofs.Quiet.{AreQuiet, IsQuiet, among_quiet, stands_quiet}
use Rattle.lk_elaborate.specs.Putting.{StandsInside}

in_either : (part : Placed) (xs ys : List Placed) → IsIn part (xs ++ ys) → IsIn part xs ⊎ IsIn part ys
in_either part [] ys there = inr there
in_either part (x ∷ xs) ys (inl is) = inl (inl is)
in_either part (x ∷ xs) ys (inr there) = later (in_either part xs ys there)
  where
    later : IsIn part xs ⊎ IsIn part ys → IsIn part (x ∷ xs) ⊎ IsIn part ys
    later (inl a) = inl (inr a)
    later (inr b) = inr b

module _ (externs : List Name) (unit : Unit) where
  abbrev Within : Env → Node → Env → Node → Type 0
  Within = StandsIn externs unit

  within_then : {a b c : Env} {x y z : Node} → Within a x b y → Within b y c z → Within a x c z
  within_then here other = other
  within_then (inside part there one) other = inside part there (within_then one other)

  -- what stands inside a node of the source is one
  pub node_inside : (placed : List Placed) (env : Env) (node : Node) → ((part : Placed) → IsIn part placed → IsNode externs unit part.env part.node) → StandsInside externs unit placed env node →
      IsNode externs unit env node
  node_inside placed env node each is = by (each is.outer is.among)
    where
      by : IsNode externs unit is.outer.env is.outer.node → IsNode externs unit env node
      by (node_of external among stands) = node_of external among (within_then stands is.stands)

  module _ {X : Type 0} (D : Env → Node → X → Type 0) where
    -- it is declared by a node that stands inside one of these
    abbrev pub Inside : List Placed → X → Type 0
    Inside placed x = (env : Env) × (node : Node) × StandsInside externs unit placed env node × D env node x

    pub inside_first : (xs ys : List Placed) (x : X) → Inside xs x → Inside (xs ++ ys) x
    inside_first xs ys x (env, node, is, d) = (env, node, record { outer = is.outer; among = in_first is.outer xs ys is.among; stands = is.stands }, d)

    pub inside_rest : (xs ys : List Placed) (x : X) → Inside ys x → Inside (xs ++ ys) x
    inside_rest xs ys x (env, node, is, d) = (env, node, record { outer = is.outer; among = in_rest is.outer xs ys is.among; stands = is.stands }, d)

    pub inside_either : (xs ys : List Placed) (x : X) → Inside (xs ++ ys) x → Inside xs x ⊎ Inside ys x
    inside_either xs ys x (env, node, is, d) = by (in_either is.outer xs ys is.among)
      where
        by : IsIn is.outer xs ⊎ IsIn is.outer ys → Inside xs x ⊎ Inside ys x
        by (inl there) = inl (env, node, record { outer = is.outer; among = there; stands = is.stands }, d)
        by (inr there) = inr (env, node, record { outer = is.outer; among = there; stands = is.stands }, d)

    pub inside_none : (x : X) → Inside [] x → ⊥
    inside_none x (env, node, is, d) = is.among

    -- it declares it itself, or one of its parts does
    pub itself : (env : Env) (node : Node) (x : X) → D env node x → Inside (at env node ∷ []) x
    itself env node x d = (env, node, record { outer = at env node; among = inl refl; stands = here }, d)

    pub by_part : (env : Env) (node : Node) (x : X) → Inside (parts (at_end externs unit) env node) x → Inside (at env node ∷ []) x
    by_part env node x (e, n, is, d) = (e, n, record { outer = at env node; among = inl refl; stands = inside is.outer is.among is.stands }, d)

    declared_within : (env : Env) (node : Node) (x : X) {e : Env} {n : Node} → Within env node e n → D e n x → D env node x ⊎ Inside (parts (at_end externs unit) env node) x
    declared_within env node x here d = inl d
    declared_within env node x {e = e} {n = n} (inside part there stands) d = inr (e, n, record { outer = part; among = there; stands = stands }, d)

    pub itself_or_part : (env : Env) (node : Node) (x : X) → Inside (at env node ∷ []) x → D env node x ⊎ Inside (parts (at_end externs unit) env node) x
    itself_or_part env node x (e, n, is, d) = declared_within env node x (by is.among) d
      where
        by : IsIn is.outer (at env node ∷ []) → Within env node e n
        by (inl same) = subst (λ (p : Placed). Within p.env p.node e n) same is.stands
        by (inr nowhere) = absurd nowhere

    module _ (loud : (env : Env) (node : Node) (x : X) → D env node x → IsQuiet node → ⊥) where
      pub nothing_inside : (placed : List Placed) (x : X) → AreQuiet placed → Inside placed x → ⊥
      nothing_inside placed x quiet (env, node, is, d) = loud env node x d (stands_quiet (at_end externs unit) is.stands (among_quiet placed is.outer is.among quiet))
