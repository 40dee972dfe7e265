use Rattle.std.proofs.Common.{◌+◌, ◌∙◌, ap}
use Rattle.rule_runs.specs.declared.told.Here.{Here}
use Rattle.rule_runs.proofs.Lists.{no_more}
use Rattle.rule_runs.proofs.Tellings.{telling-list, telling-none}
use Rattle.rule_runs.proofs.told.Here.absorb.Goals.{in-Some+in_ok-push, in_default}
use Rattle.rule_runs.proofs.told.Here.absorb.Goals as goal

pub returns-clause-telling : goal.returns-clause-telling
returns-clause-telling c = λ lists s t i k.
    let told = c.args.told in
    let new : Here = record { nodes = c.match-told.self.nodes + told.nodes; hits = c.match-told.self.hits + told.hits; parts = c.match-told.self.parts } in
    elim c.match-told.branch [
      | in-Some+in_ok-push w ↦
          let e = w.self-is in
          telling-list lists c.args.self.now s i new told t k (ap (λ (x : Here). x.nodes + told.nodes) e) (ap (λ (x : Here). x.hits + told.hits) e) w.in-Some.list w.in-Some.is (ap (λ (x : Here). x.parts.items) e ∙ w.in_ok-push.ensures.items)
      | in_default w ↦
          let e = w.self-is in
          telling-none lists c.args.self.now s i new told t k (ap (λ (x : Here). x.nodes + told.nodes) e) (ap (λ (x : Here). x.hits + told.hits) e) (no_more told.list w.in_default.not-Some) (ap (λ (x : Here). x.parts.items) e)
    ]
