use Rattle.std.proofs.Common.{◌≡◌, ◌+◌, ℕ, suc, List, Some, length, MatchOption, ap, sym, subst, ◌∙◌, arith, refl, true≢false, rules}
use Rattle.slt_grammar.specs.declared.digram.Digram.{Digram}
use Rattle.border_repair.specs.Counted.{counted}
use Rattle.border_repair.specs.Digrams.{IsCandidate, IsTop}
use Rattle.border_repair.specs.declared.edge.Edge.{Edge}
use Rattle.border_repair.proofs.Tops.{IsBest, best-start, best-taken, best-kept, best-of-all}
use Rattle.border_repair.proofs.weights.Weights.top.Goals as goal
use Rattle.border_repair.proofs.weights.Weights.top.Goals.{then-weight-most+then-is_candidate, else-weight-most, else-weight-most-via-then-weight-most+else-is_candidate, else-weight-most-via-else-weight-most}

pub entries-init : goal.entries-init
entries-init c = best-start c.self.inside.counts.entries c.args.bound

pub entries-preserved : goal.entries-preserved
entries-preserved c =
    let es = c.self.inside.counts.entries in
    let x = c.entry-weight.result.0 in
    let n = c.entry-weight.result.1 in
    let more : suc c.entries.at ≡ c.entries.at + 1 = omega arith in
    subst (λ k. IsBest es c.args.bound k c.if-weight-most.most c.if-weight-most.top) more
    (elim c.if-weight-most.branch [
      | then-weight-most+then-is_candidate w ↦
          let taken = best-taken es c.args.bound c.entries.at x n c.entry-weight.ensures.there c.entries.most c.entries.top c.entries.invariant w.if-weight-most.true (w.if-is_candidate.ensures.0 refl) c.entry-weight.ensures.counted in
          let same = w.top-is ∙ ap (λ (d : Digram). Some d) w.digram_of.ensures in
          rw (w.most-is, same) taken
      | else-weight-most w ↦ elim w.else-weight-most.branch [
        | else-weight-most-via-then-weight-most+else-is_candidate v ↦
            rw (w.most-is, w.top-is) (best-kept es c.args.bound c.entries.at x n c.entry-weight.ensures.there c.entries.most c.entries.top c.entries.invariant (λ d. absurd (true≢false (sym (v.if-is_candidate.ensures.1 d)))))
        | else-weight-most-via-else-weight-most v ↦
            rw (w.most-is, w.top-is) (best-kept es c.args.bound c.entries.at x n c.entry-weight.ensures.there c.entries.most c.entries.top c.entries.invariant (λ d. v.if-weight-most.false))
      ]
    ])

pub returns : goal.returns
returns c =
    let es = c.self.inside.counts.entries in
    let end : c.entries.at ≡ length es = search rules in
    subst (λ (fs : List (Edge × ℕ)). MatchOption c.entries.top ((d : Digram) → IsCandidate c.args.bound d → counted fs d ≡ 0) (IsTop (counted fs) c.args.bound)) c.self.view_is
    (best-of-all es c.args.bound c.entries.most c.entries.top (subst (λ k. IsBest es c.args.bound k c.entries.most c.entries.top) end c.entries.invariant))
