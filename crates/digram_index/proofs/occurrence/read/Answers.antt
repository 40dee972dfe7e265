use Rattle.std.proofs.Common.{◌≡◌, ℕ, Option, IsSome, refl, ap, sym, ◌∙◌, subst, arith}
use Rattle.rule_arena.specs.declared.key.Key.{Key}
use Rattle.rule_arena.specs.declared.label.Label.{Label}
use Rattle.slt_grammar.specs.Keyed.{nodes_at}
use Rattle.slt_grammar.specs.Algebras.{ranks_of}
use Rattle.slt_grammar.specs.Keyed.{rules_of}
use Rattle.digram_index.specs.Digrams.{joint_rank}
use Rattle.digram_index.proofs.Readings.{reads, call-there, up-key, up-pair, up-label, place-few}
use Rattle.digram_index.proofs.occurrence.read.Goals as goal

pub new-steps-requires-clause-name : goal.new-steps-requires-clause-name
new-steps-requires-clause-name g c = c.requires.name

pub new-steps-requires-clause-parts : goal.new-steps-requires-clause-parts
new-steps-requires-clause-parts g c = c.requires.parts

pub new-steps-requires-clause-some : goal.new-steps-requires-clause-some
new-steps-requires-clause-some g c = c.requires.some

pub unwrap-high-requires : goal.unwrap-high-requires
unwrap-high-requires g c =
    let o = c.requires.occurs.0 in
    let O = c.requires.occurs.1 in
    let R = reads c.args.grammar.now.rules O.rule O.place o (record { key = c.args.lower; label = c.site-low.result.label; kids = c.site-low.result.arity }) c.site-low.result.parent O.here (c.site-low.ensures.node O.rule O.place O.there) (c.site-low.ensures.parent O.rule O.place O.there) in
    subst (λ (p : Option (Key × ℕ)). IsSome p) (sym R.above) refl

pub site-up-requires : goal.site-up-requires
site-up-requires g c =
    let o = c.requires.occurs.0 in
    let O = c.requires.occurs.1 in
    let R = reads c.args.grammar.now.rules O.rule O.place o (record { key = c.args.lower; label = c.site-low.result.label; kids = c.site-low.result.arity }) c.site-low.result.parent O.here (c.site-low.ensures.node O.rule O.place O.there) (c.site-low.ensures.parent O.rule O.place O.there) in
    (O.rule, R.place, up-key c.args.grammar.now.rules O.rule R.place R.up.key R.child c.unwrap-high.result c.site-low.result.parent R.above c.unwrap-high.ensures R.key)

pub returns-clause-told : goal.returns-clause-told
returns-clause-told g c = λ o O.
    let R = reads c.args.grammar.now.rules O.rule O.place o (record { key = c.args.lower; label = c.site-low.result.label; kids = c.site-low.result.arity }) c.site-low.result.parent O.here (c.site-low.ensures.node O.rule O.place O.there) (c.site-low.ensures.parent O.rule O.place O.there) in
    let k = up-key c.args.grammar.now.rules O.rule R.place R.up.key R.child c.unwrap-high.result c.site-low.result.parent R.above c.unwrap-high.ensures R.key in
    let u = up-pair R.up.key R.child c.unwrap-high.result c.site-low.result.parent R.above c.unwrap-high.ensures in
    let l = up-label (nodes_at c.args.grammar.now.rules O.rule) R.place R.up (record { key = c.unwrap-high.result.0; label = c.site-up.result.label; kids = c.site-up.result.arity }) R.node (c.site-up.ensures.node O.rule R.place k) in
    let rank : joint_rank (ranks_of (rules_of c.args.grammar.now.rules)) c.site-up.result.label c.site-low.result.label ≡ c.saturating_sub-rank.result = let x = c.arity_of.ensures.value in let y = c.arity_of-2.ensures.value in let z = c.saturating_sub-rank.ensures in omega arith in
    R.told ∙ ap (λ (m : Label). record { digram = record { upper = m; place = R.child; lower = c.site-low.result.label }; rank = joint_rank (ranks_of (rules_of c.args.grammar.now.rules)) m c.site-low.result.label; upper = R.up.key.number }) l
    ∙ ap (λ (v : Key × ℕ). record { digram = record { upper = c.site-up.result.label; place = v.1; lower = c.site-low.result.label }; rank = joint_rank (ranks_of (rules_of c.args.grammar.now.rules)) c.site-up.result.label c.site-low.result.label; upper = v.0.number }) u
    ∙ ap (λ (x : ℕ). record { digram = record { upper = c.site-up.result.label; place = c.unwrap-high.result.1; lower = c.site-low.result.label }; rank = x; upper = c.unwrap-high.result.0.number }) rank

pub returns-clause-upper : goal.returns-clause-upper
returns-clause-upper g c = λ q e.
    let o = c.requires.occurs.0 in
    let O = c.requires.occurs.1 in
    let R = reads c.args.grammar.now.rules O.rule O.place o (record { key = c.args.lower; label = c.site-low.result.label; kids = c.site-low.result.arity }) c.site-low.result.parent O.here (c.site-low.ensures.node O.rule O.place O.there) (c.site-low.ensures.parent O.rule O.place O.there) in
    let k = up-key c.args.grammar.now.rules O.rule R.place R.up.key R.child c.unwrap-high.result c.site-low.result.parent R.above c.unwrap-high.ensures R.key in
    call-there c.args.grammar.now.rules c.rules-rules.ensures.grammar O.rule R.place q c.unwrap-high.result.0 (record { key = c.unwrap-high.result.0; label = c.site-up.result.label; kids = c.site-up.result.arity }) k (c.site-up.ensures.node O.rule R.place k) e

pub returns-clause-lower : goal.returns-clause-lower
returns-clause-lower g c = λ q e.
    let O = c.requires.occurs.1 in
    call-there c.args.grammar.now.rules c.rules-rules.ensures.grammar O.rule O.place q c.args.lower (record { key = c.args.lower; label = c.site-low.result.label; kids = c.site-low.result.arity }) O.there (c.site-low.ensures.node O.rule O.place O.there) e

pub returns-clause-place : goal.returns-clause-place
returns-clause-place g c =
    let O = c.requires.occurs.1 in
    place-few c.args.grammar.now c.limit-limit.ensures.keyed O.rule O.place c.args.lower c.unwrap-high.result c.site-up.result.label c.site-up.result.arity O.there
    (c.site-low.ensures.parent O.rule O.place O.there ∙ c.unwrap-high.ensures) c.site-up.ensures.few (c.site-up.ensures.node O.rule)
