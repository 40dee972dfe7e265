use Rattle.std.proofs.Common.{◌-◌, ◌<◌, ◌∙◌, List, Option, IsSome, slice_get, length, arith, ap, sym, subst}
use Rattle.rule_arena.specs.declared.key.Key.{Key}
use Rattle.slt_grammar.specs.Keyed.{KeyedRule}
use Rattle.slt_grammar.specs.KeyedEdits.{rule_dropped}
use Rattle.digram_index.proofs.KeptRules.{put-kept}
use Rattle.digram_index.proofs.Numbered.{fewer-same}
use Rattle.pair_replace.proofs.PutBack.{index-back, rules-back}
use Rattle.pair_replace.proofs.PutCounts.{count-put}
use Rattle.pair_replace.proofs.PutRules.{is-new, index-but-lower, apart-linked, child-there}
use Rattle.pair_replace.proofs.KeptMarks.{keeps-back, keeps-put}
use Rattle.pair_replace.proofs.new_rule.add_new_rule.Goals as goal

pub unwrap-lower-requires : goal.unwrap-lower-requires
unwrap-lower-requires c =
    let a = c.in_ok-place.ensures.added in
    let h : c.in_ok-place.place < length c.put_rule.new.grammar.rules = let t = a.there in let m = a.many in omega arith in
    subst (λ (o : Option Key). IsSome o) (sym c.get.ensures)
    (child-there c.put_rule.new.grammar c.limit-grown.ensures.keyed c.args.digram c.in_ok-place.place h a.first a.last a.body c.item-root.result.kids (c.item-root.ensures.kids c.in_ok-place.place 0 c.root.ensures))

pub returns-in-Ok-clause-new : goal.returns-in-Ok-clause-new
returns-in-Ok-clause-new c =
    let a = c.in_ok-place.ensures.added in
    let k = ap (λ (ks : List Key). slice_get ks (c.args.digram.place - 1)) (c.item-root.ensures.kids c.in_ok-place.place 0 c.root.ensures) ∙ sym c.get.ensures ∙ c.unwrap-lower.ensures in
    is-new c.put_rule.new.grammar c.limit-grown.ensures.keyed c.args.digram c.in_ok-place.place c.unwrap-lower.result a.first a.body k c.in_ok-place.ensures.first

pub returns-in-Ok-clause-index : goal.returns-in-Ok-clause-index
returns-in-Ok-clause-index c =
    let a = c.in_ok-place.ensures.added in
    index-but-lower c.put_rule.new.grammar c.limit-grown.ensures.keyed c.args.digram c.in_ok-place.place c.unwrap-lower.result (returns-in-Ok-clause-new c) c.make_place.new.index
    (put-kept c.args.grammar.now c.put_rule.new.grammar c.limit-grown.ensures.keyed c.in_ok-place.place a.rule (let t = a.there in omega arith) a.rules c.args.index.now c.make_place.new.index c.requires.index c.in-Ok.ensures.rules c.in-Ok.ensures.shifted)

pub returns-in-Ok-clause-apart : goal.returns-in-Ok-clause-apart
returns-in-Ok-clause-apart c =
    apart-linked c.args.grammar.now c.args.digram c.in_ok-place.place c.args.index.now c.make_place.new.index c.requires.index c.in_ok-place.ensures.added.below c.in-Ok.ensures.shifted

pub returns-in-Ok-clause-counted : goal.returns-in-Ok-clause-counted
returns-in-Ok-clause-counted c = count-put c.in_ok-place.place c.args.digram c.args.index.now.cells c.make_place.new.index.cells c.in_ok-place.ensures.added.below c.in-Ok.ensures.shifted

pub returns-in-Err-clause-refused : goal.returns-in-Err-clause-refused
returns-in-Err-clause-refused c =
    let a = c.in_ok-place.ensures.added in
    c.drop_rule.ensures.rules ∙ ap (λ (G : List KeyedRule). rule_dropped G c.in_ok-place.place) a.rules ∙ rules-back c.args.grammar.now.rules c.in_ok-place.place a.rule (let t = a.there in omega arith)

pub returns-in-Err-clause-refused_index : goal.returns-in-Err-clause-refused_index
returns-in-Err-clause-refused_index c = index-back c.args.grammar.now c.drop_rule.new.self c.args.index.now c.make_place.new.index c.requires.index (returns-in-Err-clause-refused c) c.in-Err.ensures.refused

pub returns-in-Ok-clause-marks : goal.returns-in-Ok-clause-marks
returns-in-Ok-clause-marks c =
    keeps-put c.args.grammar.now c.put_rule.new.grammar.rules c.limit-limit.ensures.keyed c.args.digram c.in_ok-place.place c.in_ok-place.ensures.added c.args.index.now c.make_place.new.index c.make_place.ensures.marks c.in-Ok.ensures.numbers

pub returns-in-Err-clause-marks : goal.returns-in-Err-clause-marks
returns-in-Err-clause-marks c =
    keeps-back c.args.grammar.now.rules c.drop_rule.new.self.rules c.args.index.now c.make_place.new.index (returns-in-Err-clause-refused c) c.in-Err.ensures.refused_marks

pub returns-in_err-place-clause-marks : goal.returns-in_err-place-clause-marks
returns-in_err-place-clause-marks c =
    keeps-back c.args.grammar.now.rules c.put_rule.new.grammar.rules c.args.index.now c.args.index.now c.in_err-place.ensures.refused (fewer-same c.args.index.now)
