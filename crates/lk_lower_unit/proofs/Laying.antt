-- Walks as lists of named steps.
use Rattle.std.proofs.Common.{ap, sym, ◌∙◌, ◌≡◌, ℕ, List, [], ◌∷◌, ◌++◌, map, refl, append_assoc}
use Rattle.std.specs.Prelude.{suc}
use Rattle.std.proofs.lemmas.List.{append-nil, map-append}
use Rattle.lk_lower_expr.specs.Laid.{laid, laid_from, named}
use Rattle.lk_lower_expr.specs.Statics.{all_ended, ended}
use Rattle.lk_lower_expr.specs.Walk.{Walk, nothing, own, ◌then◌}
use Rattle.lk_lower_expr.specs.declared.step.NamedStep.{NamedStep}
use Rattle.lk_lower_expr.specs.declared.step.Step.{Step}
use Rattle.lk_lower_unit.specs.Pointers.{ended_here}

laid_from_apart : (steps : List Step) (node from : ℕ) (others : List NamedStep) → laid_from node from steps others ≡ others ++ laid_from node from steps []
laid_from_apart [] node from others = sym (append-nil others)
laid_from_apart (is ∷ steps) node from others =
    laid_from_apart steps node (suc from) (others ++ (named node from is ∷ [])) ∙
    append_assoc others (named node from is ∷ []) (laid_from node (suc from) steps []) ∙ ap (λ xs. others ++ xs) (sym (laid_from_apart steps node (suc from) (named node from is ∷ [])))

-- the steps of a walk stand behind the others
pub laid_apart : (walk : Walk) (others : List NamedStep) → laid walk others ≡ others ++ laid walk []
laid_apart nothing others = sym (append-nil others)
laid_apart (own node steps) others = laid_from_apart steps node 0 others
laid_apart (a then b) others =
    laid_apart a (laid b others) ∙ ap (λ xs. xs ++ laid a []) (laid_apart b others) ∙ append_assoc others (laid b []) (laid a []) ∙
    ap (λ xs. others ++ xs) (sym (laid_apart a (laid b [])))

ended_from : (steps : List Step) (node from : ℕ) → laid_from node from (map ended steps) [] ≡ map ended_here (laid_from node from steps [])
ended_from [] node from = refl
ended_from (is ∷ steps) node from =
    laid_from_apart (map ended steps) node (suc from) (named node from (ended is) ∷ []) ∙ ap (λ xs. named node from (ended is) ∷ xs) (ended_from steps node (suc from)) ∙
    sym (ap (λ xs. map ended_here xs) (laid_from_apart steps node (suc from) (named node from is ∷ [])))

ended_all : (walk : Walk) → laid (all_ended walk) [] ≡ map ended_here (laid walk [])
ended_all nothing = refl
ended_all (own node steps) = ended_from steps node 0
ended_all (a then b) =
    laid_apart (all_ended a) (laid (all_ended b) []) ∙ ap (λ xs. xs ++ laid (all_ended a) []) (ended_all b) ∙ ap (λ xs. map ended_here (laid b []) ++ xs) (ended_all a) ∙
    sym (map-append ended_here (laid b []) (laid a [])) ∙ sym (ap (λ xs. map ended_here xs) (laid_apart a (laid b [])))

-- the steps of a walk, each without a point at which control goes on
pub ended_laid : (walk : Walk) (others : List NamedStep) → laid (all_ended walk) others ≡ others ++ map ended_here (laid walk [])
ended_laid walk others = laid_apart (all_ended walk) others ∙ ap (λ xs. others ++ xs) (ended_all walk)
