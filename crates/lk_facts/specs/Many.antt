-- Which points may be performed more than once, and which mutexes have one object
-- (LOCKSMITH: linearity of locks).
use Rattle.std.specs.Prelude.{◌≡◌, ℕ, true, Some, ⊤}
use Rattle.lk_facts.specs.Effects.{entered}
use Rattle.lk_facts.specs.Program.{live_at, function_at, effect_at, value_site_of, entry_of, place_at, root_at, IsLockPlace}
use Rattle.lk_facts.specs.Reach.{IsOnCycle}
use Rattle.lk_facts.specs.declared.effect.Effect.{Effect}
use Rattle.lk_facts.specs.declared.place.Place.{Place}
use Rattle.lk_facts.specs.declared.program.Program.{Program}
use Rattle.lk_facts.specs.declared.root.Root.{Root}
use Rattle.lk_facts.specs.declared.root.RootKind.{RootKind}
use Rattle.lk_facts.specs.declared.root.RootKind.TheVariants as kind
use Rattle.lk_types.specs.Nodes.{node_of, HasNoElement}

module _ (program : Program) where
  -- the live point q calls f, or starts a thread there: it is a site of f
  pub record IsSiteOf (f q : ℕ) : Type 0 where
    pub live : live_at program q ≡ true
    pub effect : Effect
    pub is : effect_at program q ≡ Some effect
    pub enters : entered effect ≡ Some f

  -- Many: the point may be performed more than once
  pub data Many : ℕ → Type 0 where
    -- control may come back to it
    again : {p : ℕ} → IsOnCycle program p → Many p
    -- its function is used as a value
    value : {p f i : ℕ} → function_at program p ≡ Some f → value_site_of program f ≡ Some i → Many p
    -- its function has two sites
    sites : {p f q r : ℕ} → function_at program p ≡ Some f → IsSiteOf f q → IsSiteOf f r →
        (q ≡ r → ⊥) → Many p
    -- a site of its function may be performed more than once
    site : {p f q : ℕ} → function_at program p ≡ Some f → IsSiteOf f q → Many q → Many p

  -- the point is performed once at most
  abbrev pub IsOnce : ℕ → Type 0
  IsOnce p = Many p → ⊥

  -- the function is entered once at most
  abbrev pub IsEnteredOnce : ℕ → Type 0
  IsEnteredOnce f = (p : ℕ) × (entry_of program f ≡ Some p) × IsOnce p

  -- a root of this kind has one object at most
  abbrev pub IsOneOfKind : RootKind → Root → Type 0
  IsOneOfKind kind.Global root = ⊤
  IsOneOfKind kind.Static root = ⊤
  IsOneOfKind kind.Local root = (f : ℕ) × (root.function ≡ Some f) × IsEnteredOnce f
  IsOneOfKind (kind.Heap one) root = (one ≡ true) × ((p : ℕ) × (root.point ≡ Some p) × IsOnce p)
  IsOneOfKind kind.Text root = ⊥
  IsOneOfKind kind.Argv root = ⊥
  IsOneOfKind kind.Args root = ⊥
  IsOneOfKind kind.Function root = ⊥

  -- Linear: the label is that of a lock place which has one mutex at most
  pub record IsLinear (q : ℕ) : Type 0 where
    pub is_lock : IsLockPlace program q
    pub place : Place
    pub is : place_at program q ≡ Some place
    pub single : HasNoElement (node_of program.types place.node).path
    pub root : Root
    pub of : root_at program place.root ≡ Some root
    pub one : IsOneOfKind root.kind root
