use Rattle.std.proofs.Common.{◌≡◌, ◌<◌, ◌↔◌, ◌∙◌, [], Contains, length, sym, subst, arith}
use Rattle.std.proofs.lemmas.Bool.{false≢true}
use Rattle.std.proofs.lemmas.List.{get_or_read}
use Rattle.std.proofs.lemmas.List.Elements.{All-contains_itself, All-weaker}
use Rattle.std.proofs.lemmas.Result.{IfOk-weaker}
use Rattle.std.specs.Bool.{IsTrue}
use Rattle.lk_links.specs.declared.link.Link.{Link}
use Rattle.lk_order.specs.Acts.{basis_in, linear_in}
use Rattle.lk_order.specs.Asking.{Agrees}
use Rattle.lk_order.proofs.SameLemmas.{agree_is, follows_if, follows_never, follows_one}
use Rattle.lk_rise.specs.Links.{links_into}
use Rattle.lk_order.proofs.acts.Acts.follows.Goals as goal

pub returns-then-mean_one_lock : goal.returns-then-mean_one_lock
returns-then-mean_one_lock c =
    let self = c.args.self.now in
    follows_one (basis_in self) (linear_in self) c.args.known.now.keys c.args.goal (c.mean_one_lock.ensures.0 c.if-mean_one_lock.true)

pub returns-then-are_origins : goal.returns-then-are_origins
returns-then-are_origins c =
    let self = c.args.self.now in
    let both = c.are_origins.ensures.0 c.if-are_origins.true in
    follows_never (basis_in self) (linear_in self) c.args.known.now.keys c.args.goal (λ mean. false≢true (sym c.if-mean_one_lock.false ∙ c.mean_one_lock.ensures.1 mean))
    (λ apart site value. apart both.0 both.1)

pub returns-then-not-has_site : goal.returns-then-not-has_site
returns-then-not-has_site c =
    let self = c.args.self.now in
    follows_never (basis_in self) (linear_in self) c.args.known.now.keys c.args.goal (λ mean. false≢true (sym c.if-mean_one_lock.false ∙ c.mean_one_lock.ensures.1 mean))
    (λ apart site value. false≢true (sym c.if-not-has_site.true ∙ c.has_site.ensures.1 site))

pub returns-then-not-branch : goal.returns-then-not-branch
returns-then-not-branch c =
    let self = c.args.self.now in
    follows_never (basis_in self) (linear_in self) c.args.known.now.keys c.args.goal (λ mean. false≢true (sym c.if-mean_one_lock.false ∙ c.mean_one_lock.ensures.1 mean))
    (λ apart site value. false≢true (sym c.if-not-branch.true ∙ c.in_ok-agree_as_value.ensures.1 value))

pub has_site-requires-clause-links : goal.has_site-requires-clause-links
has_site-requires-clause-links c =
    let self = c.args.self.now in
    let within : c.args.goal.function < length self.into.now = omega (arith, c.requires.goal.function, c.requires.functions) in
    c.list-links.ensures ∙ sym c.index-self-goal.is ∙ get_or_read self.into.now c.args.goal.function c.index-self-goal.result within c.index-self-goal.is []

pub all_agree-requires-clause-above : goal.all_agree-requires-clause-above
all_agree-requires-clause-above c =
    let self = c.args.self.now in
    let within : c.args.goal.function < length self.into.now = omega (arith, c.requires.goal.function, c.requires.functions) in
    let links : c.list-links.result.now ≡ links_into self.into.now c.args.goal.function =
    c.list-links.ensures ∙ sym c.index-self-goal.is ∙ get_or_read self.into.now c.args.goal.function c.index-self-goal.result within c.index-self-goal.is [] in
    All-weaker (Contains c.list-links.result.now) (λ (link : Link). link.above < length self.points.now.functions)
    (λ link there. (c.requires.into.each c.args.goal.function link (subst (λ ls. Contains ls link) links there)).is.above) c.list-links.result.now (All-contains_itself c.list-links.result.now)

pub returns : goal.returns
returns c =
    let self = c.args.self.now in
    let basis = basis_in self in
    let linear = linear_in self in
    let within : c.args.goal.function < length self.into.now = omega (arith, c.requires.goal.function, c.requires.functions) in
    let links : c.list-links.result.now ≡ links_into self.into.now c.args.goal.function =
    c.list-links.ensures ∙ sym c.index-self-goal.is ∙ get_or_read self.into.now c.args.goal.function c.index-self-goal.result within c.index-self-goal.is [] in
    let ways = agree_is basis linear self.into.now c.requires.into c.args.known.now.keys c.args.goal in
    IfOk-weaker c.all_agree.result _ _ (λ answer asked.
    let asked' = subst (λ ls. IsTrue answer ↔ ((link : Link) → Contains ls link → Agrees basis linear c.args.known.now.keys c.args.goal link)) links asked in
    follows_if basis linear c.args.known.now.keys c.args.goal answer (λ mean. false≢true (sym c.if-mean_one_lock.false ∙ c.mean_one_lock.ensures.1 mean))
    (λ first second. false≢true (sym c.if-are_origins.false ∙ c.are_origins.ensures.1 (first, second))) (c.has_site.ensures.0 c.if-not-has_site.false) (c.in_ok-agree_as_value.ensures.0 c.if-not-branch.false)
    (λ yes. ways.0 (asked'.0 yes), λ each. asked'.1 (ways.1 each)))
    c.all_agree.ensures
