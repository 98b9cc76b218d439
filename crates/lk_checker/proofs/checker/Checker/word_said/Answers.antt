use Rattle.std.proofs.Common.{◌∙◌, ap, subst}
use Rattle.lk_typed.specs.Env.{look_up}
use Rattle.lk_typed.specs.Names.{IsKnownName, declared_in}
use Rattle.lk_typed.specs.Words.{use_of_declared}
use Rattle.lk_check_expr.specs.Looks.{IsLook, word_look}
use Rattle.lk_check_expr.specs.NameUses.{IsUse}
use Rattle.lk_found.specs.Judging.{IsRuled}
use Rattle.lk_found.proofs.Named.{known_copied, mapped_copied, named_so}
use Rattle.lk_checker.proofs.checker.Checker.word_said.Goals as goal

pub word_ruled-ruled-requires-clause-known : goal.word_ruled-ruled-requires-clause-known
word_ruled-ruled-requires-clause-known c = known_copied (IsKnownName c.args.self.now.types) c.look_up-found.result (c.look_up-found.ensures.known c.args.self.now.types c.requires.scope)

pub word-look-requires : goal.word-look-requires
word-look-requires c = known_copied (IsKnownName c.args.self.now.types) c.look_up-found.result (c.look_up-found.ensures.known c.args.self.now.types c.requires.scope)

pub returns-clause-ruled : goal.returns-clause-ruled
returns-clause-ruled c = λ env is_in role.
    let table = c.args.self.now.types in
    let name = c.args.name.now in
    let same = mapped_copied (declared_in table) c.look_up-found.result ∙ c.look_up-found.ensures.env table env ∙ ap (λ env. look_up env name) is_in.scope in
    subst (λ o. IsRuled table c.word_ruled-ruled.result (use_of_declared env name o)) same (c.word_ruled-ruled.ensures env (c.use_of-used.ensures env is_in role))

pub returns-clause-look : goal.returns-clause-look
returns-clause-look c = λ env is_in role.
    let table = c.args.self.now.types in
    let name = c.args.name.now in
    let same = mapped_copied (declared_in table) c.look_up-found.result ∙ c.look_up-found.ensures.env table env ∙ ap (λ env. look_up env name) is_in.scope in
    let used = c.use_of-used.ensures env is_in role in
    subst (λ o. IsLook env c.word-look.result (word_look o)) same
    (c.word-look.ensures env
    (named_so (λ n. IsUse table env n c.use_of-used.result) c.look_up-found.result name c.args.self.now.names.declared c.look_up-found.ensures.value used))
