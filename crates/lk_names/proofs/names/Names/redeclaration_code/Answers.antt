use Rattle.std.proofs.Common.{◌∙◌, ◌&&◌, [], ◌∷◌, Some, None, false, not, if◌then◌else◌, ap}
use Rattle.lk_base.specs.declared.code.Code.TheVariants.{Redeclared}
use Rattle.lk_typed.specs.Faults.{breach_of}
use Rattle.lk_typed.specs.Names.{declared_in}
use Rattle.lk_names.specs.InScope.{env_in}
use Rattle.lk_names.proofs.TellingRules.{name_told, none_second}
use Rattle.lk_names.proofs.names.Names.redeclaration_code.Goals as goal

pub may_follow-requires-clause-old : goal.may_follow-requires-clause-old
may_follow-requires-clause-old c = c.in-Some.ensures.known c.args.types.now c.requires.scope

pub returns-in-Some : goal.returns-in-Some
returns-in-Some c rest =
    let env = env_in c.args.types.now rest c.args.self.now in
    let new = declared_in c.args.types.now c.args.new.now in
    let old = declared_in c.args.types.now c.in-Some.old.now in
    c.unless_admitted.ensures new.name ∙
    ap (λ b. if b && not c.is_second.result then [] else breach_of Redeclared new.name ∷ []) c.may_follow.ensures ∙
    name_told env new (Some old) (c.in-Some.ensures.env c.args.types.now rest) c.is_second.result (c.is_second.ensures c.args.types.now rest)

pub returns-in-None : goal.returns-in-None
returns-in-None c rest =
    let env = env_in c.args.types.now rest c.args.self.now in
    let new = declared_in c.args.types.now c.args.new.now in
    let none = c.in-None.ensures.env c.args.types.now rest in
    name_told env new None none false (none_second env new none)
