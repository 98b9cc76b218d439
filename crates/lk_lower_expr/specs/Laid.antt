-- The steps of a walk with their names, as a list.
use Rattle.std.specs.Prelude.{ℕ, suc, List, [], ◌∷◌, ◌++◌}
use Rattle.lk_lower_expr.specs.Walk.{Walk, nothing, own, ◌then◌}
use Rattle.lk_lower_expr.specs.declared.step.NamedStep.{NamedStep}
use Rattle.lk_lower_expr.specs.declared.step.Step.{Step}

-- a step with its name
abbrev pub named : (node step : ℕ) → Step → NamedStep
named node step is = record { node = node; step = step; is = is }

-- the steps of a node from the step `from` on, at the end of others
abbrev pub laid_from : (node from : ℕ) → List Step → List NamedStep → List NamedStep
laid_from node from [] others = others
laid_from node from (is ∷ steps) others =
    laid_from node (suc from) steps (others ++ (named node from is ∷ []))

-- the steps of a walk at the end of others, what stands last in it before the rest
abbrev pub laid : Walk → List NamedStep → List NamedStep
laid nothing others = others
laid (own node steps) others = laid_from node 0 steps others
laid (a then b) others = laid a (laid b others)
