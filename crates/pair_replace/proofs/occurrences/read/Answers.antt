use Rattle.std.proofs.Common.{ℕ, Option, IsSome, refl, ap, sym, ◌∙◌, subst}
use Rattle.rule_arena.specs.declared.key.Key.{Key}
use Rattle.rule_arena.specs.declared.label.Label.{Label}
use Rattle.slt_grammar.specs.Keyed.{nodes_at}
use Rattle.slt_grammar.specs.declared.digram.Digram.{Digram}
use Rattle.digram_index.specs.Digrams.{Cell}
use Rattle.digram_index.proofs.Readings.{reads, up-key, up-pair, up-label}
use Rattle.pair_replace.proofs.occurrences.read.Goals as goal

pub unwrap-high-requires : goal.unwrap-high-requires
unwrap-high-requires c =
    let o = c.requires.0 in
    let O = c.requires.1 in
    let R = reads c.args.grammar.now.rules O.rule O.place o (record { key = c.args.lower; label = c.site-low.result.label; kids = c.site-low.result.arity }) c.site-low.result.parent O.here (c.site-low.ensures.node O.rule O.place O.there) (c.site-low.ensures.parent O.rule O.place O.there) in
    subst (λ (p : Option (Key × ℕ)). IsSome p) (sym R.above) refl

pub site-up-requires : goal.site-up-requires
site-up-requires c =
    let o = c.requires.0 in
    let O = c.requires.1 in
    let R = reads c.args.grammar.now.rules O.rule O.place o (record { key = c.args.lower; label = c.site-low.result.label; kids = c.site-low.result.arity }) c.site-low.result.parent O.here (c.site-low.ensures.node O.rule O.place O.there) (c.site-low.ensures.parent O.rule O.place O.there) in
    (O.rule, R.place, up-key c.args.grammar.now.rules O.rule R.place R.up.key R.child c.unwrap-high.result c.site-low.result.parent R.above c.unwrap-high.ensures R.key)

pub returns-clause-digram : goal.returns-clause-digram
returns-clause-digram c = λ o O.
    let R = reads c.args.grammar.now.rules O.rule O.place o (record { key = c.args.lower; label = c.site-low.result.label; kids = c.site-low.result.arity }) c.site-low.result.parent O.here (c.site-low.ensures.node O.rule O.place O.there) (c.site-low.ensures.parent O.rule O.place O.there) in
    let k = up-key c.args.grammar.now.rules O.rule R.place R.up.key R.child c.unwrap-high.result c.site-low.result.parent R.above c.unwrap-high.ensures R.key in
    let u = up-pair R.up.key R.child c.unwrap-high.result c.site-low.result.parent R.above c.unwrap-high.ensures in
    let l = up-label (nodes_at c.args.grammar.now.rules O.rule) R.place R.up (record { key = c.unwrap-high.result.0; label = c.site-up.result.label; kids = c.site-up.result.arity }) R.node (c.site-up.ensures.node O.rule R.place k) in
    ap (λ (x : Cell). x.digram) R.told
    ∙ ap (λ (m : Label). let d : Digram = record { upper = m; place = R.child; lower = c.site-low.result.label } in d) l
    ∙ ap (λ (v : Key × ℕ). let d : Digram = record { upper = c.site-up.result.label; place = v.1; lower = c.site-low.result.label } in d) u

pub returns-clause-upper : goal.returns-clause-upper
returns-clause-upper c = λ o O.
    let R = reads c.args.grammar.now.rules O.rule O.place o (record { key = c.args.lower; label = c.site-low.result.label; kids = c.site-low.result.arity }) c.site-low.result.parent O.here (c.site-low.ensures.node O.rule O.place O.there) (c.site-low.ensures.parent O.rule O.place O.there) in
    let u = up-pair R.up.key R.child c.unwrap-high.result c.site-low.result.parent R.above c.unwrap-high.ensures in
    ap (λ (x : Cell). x.upper) R.told ∙ ap (λ (v : Key × ℕ). v.0.number) u
