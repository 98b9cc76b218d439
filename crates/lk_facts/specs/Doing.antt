-- What live points do: the functions that they go into, the mutexes that they take and
-- free, the cells that they access.
use Rattle.std.specs.Prelude.{◌≡◌, ℕ, true, Some}
use Rattle.lk_facts.specs.Basis.{Basis}
use Rattle.lk_facts.specs.Labels.{target_at, root_of}
use Rattle.lk_facts.specs.Program.{live_at, function_at, effect_at, site_at, value_site_of, function_of_root}
use Rattle.lk_facts.specs.declared.effect.Effect.{Effect}
use Rattle.lk_facts.specs.declared.effect.Effect.TheVariants as effect
use Rattle.lk_facts.specs.declared.program.Program.{Program}
use Rattle.lk_facts.specs.declared.way.Way.{Way}
use Rattle.lk_facts.specs.declared.way.Way.TheVariants.{Through, AsValue}

-- the live point p of f has the effect
pub record Does (program : Program) (p f : ℕ) (effect : Effect) : Type 0 where
  pub live : live_at program p ≡ true
  pub of : function_at program p ≡ Some f
  pub is : effect_at program p ≡ Some effect

module _ (basis : Basis) where
  -- the label names the function g
  abbrev pub NamesFunction : ℕ → ℕ → Type 0
  NamesFunction x g =
      (r : ℕ) × (root_of basis.labels x ≡ Some r) × (function_of_root basis.program r ≡ Some g)

  -- the operand a of a call may point to the function g, which is used as a value and has the own site i
  pub record MayCall (a g i : ℕ) : Type 0 where
    pub target : ℕ
    pub origin : ℕ
    pub points_to : target_at basis.labels a ≡ Some target
    pub may_be : basis.flow.all target origin ≡ true
    pub names : NamesFunction origin g
    pub own_site : value_site_of basis.program g ≡ Some i

  -- the live point p of f accesses what the label names
  pub data Accesses (p f x : ℕ) : Type 0 where
    reads : (a : ℕ) → Does basis.program p f (effect.Reads a) →
        target_at basis.labels a ≡ Some x → Accesses p f x
    writes : (a : ℕ) → Does basis.program p f (effect.Writes a) →
        target_at basis.labels a ≡ Some x → Accesses p f x

  -- the live point p of f takes the mutex that the label names (POSIX pthread_mutex_lock)
  pub data Takes (p f x : ℕ) : Type 0 where
    takes : (a : ℕ) → Does basis.program p f (effect.Takes a) →
        target_at basis.labels a ≡ Some x → Takes p f x

  -- the live point p of f frees the mutex that the label names (POSIX pthread_mutex_unlock)
  pub data Frees (p f x : ℕ) : Type 0 where
    frees : (a : ℕ) → Does basis.program p f (effect.Frees a) →
        target_at basis.labels a ≡ Some x → Frees p f x

  -- the live point p of f runs the function g in its own thread, and goes into it by the way (C99 6.5.2.2)
  pub data Runs (p f : ℕ) : Way → ℕ → Type 0 where
    call : (g i : ℕ) → Does basis.program p f (effect.Runs g) → site_at basis.program p ≡ Some i →
        Runs p f (Through i) g
    pointer : (g a i : ℕ) → Does basis.program p f (effect.RunsThrough a) → MayCall a g i →
        Runs p f (AsValue i) g

  -- the live point p of f starts a thread at the function g, and goes into it by
  -- the way (POSIX pthread_create)
  pub data Starts (p f : ℕ) : Way → ℕ → Type 0 where
    create : (g i : ℕ) → Does basis.program p f (effect.Starts g) → site_at basis.program p ≡ Some i →
        Starts p f (Through i) g
