-- A declarator behind which the codes of the use of its name are kept.
use Rattle.std.proofs.Common.{◌++◌, [], ◌∷◌, Option, sym}
use Rattle.std.specs.Prelude.{ℕ}
use Rattle.std.specs.Option.{option_map}
use Rattle.std.proofs.lemmas.List.{append-nil}
use Rattle.lk_tree.specs.declared.expression.Declarator.{Declarator}
use Rattle.lk_typed.specs.Env.{Env}
use Rattle.lk_typed.specs.Meaning.{meaning}
use Rattle.lk_typed.specs.Nodes.{ADeclarator, NameUse, at}
use Rattle.lk_rules.specs.Keeping.{Kept, KeepsNodes}
use Rattle.lk_found.specs.Declarators.{KeepsUse, codes_of_use, left_of}
use Rattle.lk_found.specs.declared.declarators.Asked.{Asked}
use Rattle.lk_found.specs.declared.declarators.DeclaratorFound.{DeclaratorFound}
use Rattle.lk_found.proofs.Inside.{each_all, all_nodes}
use Rattle.lk_checker.specs.States.{kept_in}
use Rattle.lk_checker.specs.declared.checker.Checker.{Checker}
use Rattle.lk_check_walk.specs.Declarators.{IsDeclared}

-- a declarator behind which the codes of the use of its name are kept at once is walked
pub use_kept : {at_end env : Env} {old new : Checker} {left : Option ℕ} {d : Declarator} {asked : Asked} {found : DeclaratorFound} → IsDeclared at_end old new env left d asked found → (becomes : NameUse) (last : Kept) →
    let given = left_of env asked.may_be_absent (option_map (meaning old.types) left) d becomes in
    KeepsUse env (kept_in new) given d last → KeepsNodes at_end (kept_in old) (at env (ADeclarator given d) ∷ []) last
use_kept {at_end} {env} {old} {new} {left} {d} {asked} declared becomes last kept =
    let given = left_of env asked.may_be_absent (option_map (meaning old.types) left) d becomes in
    all_nodes at_end (kept_in old) last (at env (ADeclarator given d) ∷ [])
    (declared.keeps becomes [] [] last (each_all at_end (kept_in new) last (codes_of_use env given d) (codes_of_use env given d ++ []) (sym (append-nil (codes_of_use env given d))) kept))
