-- What is known of a call's parts together is known of each: the whole answer is shown once, and its parts are a contract's equations.
use mathlib.Core.Path.{◌≡◌, ap}
use Rattle.codec.specs.Bytes.{Bytes}
use Rattle.manager.specs.Calls.{After, Effect}
use Rattle.manager.specs.Plan.{Planned}
use Rattle.manager.specs.Types.{Change, Done, Plan}

pub effect_parts : {c : Change} {s : Bytes} {whole : Effect} → ◌≡◌ {A = Effect} (record { change = c; store = s }) whole
    → (c ≡ whole.change) × (s ≡ whole.store)
effect_parts e = (ap (λ (x : Effect). x.change) e, ap (λ (x : Effect). x.store) e)

-- a store that was only read is the one that was lent
module _ (store : Bytes) where
  pub plan_parts : {p : Plan} {out : Bytes} {whole : Planned}
      → ◌≡◌ {A = Planned} (record { plan = p; store = store; output = out }) whole → (p ≡ whole.plan) × (out ≡ whole.output)
  plan_parts e = (ap (λ (x : Planned). x.plan) e, ap (λ (x : Planned). x.output) e)

  pub after_parts : {d : Done} {out : Bytes} {whole : After}
      → ◌≡◌ {A = After} (record { done = d; store = store; output = out }) whole → (d ≡ whole.done) × (out ≡ whole.output)
  after_parts e = (ap (λ (x : After). x.done) e, ap (λ (x : After). x.output) e)
