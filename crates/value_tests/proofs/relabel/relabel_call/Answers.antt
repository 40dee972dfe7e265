use Rattle.std.proofs.Common.{◌≡◌, ◌∙◌, ◌++◌, ◌<◌, ap, arith, length, reverse, subst, sym, Ok}
use Rattle.segment_counts.specs.Counting.{told}
use Rattle.segment_counts.specs.declared.counts.Measure.TheVariants.{Texts}
use Rattle.slt_grammar.specs.Grammars.{rank_at}
use Rattle.slt_grammar.specs.Keyed.{rules_of}
use Rattle.slt_grammar.proofs.KeyedLemmas.{length-rules_of}
use Rattle.value_tests.specs.MarkLists.{mark_at}
use Rattle.value_tests.specs.TextPlaces.{places, AreClear}
use Rattle.value_tests.proofs.Becoming.{call-plain, call-marked}
use Rattle.value_tests.proofs.Stepping.{mark-told}
use Rattle.value_tests.proofs.relabel.relabel_call.Goals as goal

pub returns-then-branch-clause-becomes : goal.returns-then-branch-clause-becomes
returns-then-branch-clause-becomes c = λ ss rest l f.
    let G = rules_of c.args.source.now.grammar.now.rules in
    let q = c.args.rule in
    let there = c.requires.there in
    let h : q < length G = omega (arith, there, length-rules_of c.args.source.now.grammar.now.rules) in
    let kids = c.pop_many.new.taken.items in
    let n : length kids ≡ rank_at G q = omega (arith, c.pop_many.new.taken.ok.0, c.in_ok-pop_many.ensures.count, c.rank-rank.ensures) in
    let v = c.as_slice.ensures.value in
    let o = c.in_ok-enter_call.ensures.places ∙ ap (λ xs. places (told Texts c.args.source.now.counts.now.rows q) 0 xs c.args.place ++ reverse c.args.opened.now.items) v in
    let a = subst (λ xs. AreClear (told Texts c.args.source.now.counts.now.rows q) (mark_at c.args.source.now.marks.now) 0 xs c.args.place) v (c.in_ok-enter_call.ensures.clear (ap Ok c.if-branch.true)) in
    call-plain c.args.source.now.names.now G c.rules-rules.ensures.grammar c.args.source.now.counts.now c.requires.counts q h (length c.args.source.now.names.now) (mark_at c.args.source.now.marks.now) c.args.place kids (reverse c.pop_many.new.stack.items) (reverse c.args.notes.now.items) (reverse c.args.opened.now.items) (reverse c.enter_call.new.opened.items) n c.in_ok-pop_many.ensures.taken o c.plain.new.self c.in_ok-id.id a c.in_ok-id.ensures.plain ss rest l f

pub returns-clause-becomes : goal.returns-clause-becomes
returns-clause-becomes c = λ ss rest l f.
    let G = rules_of c.args.source.now.grammar.now.rules in
    let q = c.args.rule in
    let there = c.requires.there in
    let h : q < length G = omega (arith, there, length-rules_of c.args.source.now.grammar.now.rules) in
    let kids = c.pop_many.new.taken.items in
    let n : length kids ≡ rank_at G q = omega (arith, c.pop_many.new.taken.ok.0, c.in_ok-pop_many.ensures.count, c.rank-rank.ensures) in
    let v = c.as_slice.ensures.value in
    let o = c.in_ok-enter_call.ensures.places ∙ ap (λ xs. places (told Texts c.args.source.now.counts.now.rows q) 0 xs c.args.place ++ reverse c.args.opened.now.items) v in
    let st = c.in_ok-extend_from_slice.ensures.items ∙ ap (λ xs. xs ++ c.as_slice-2.result.now) c.new-sizes.ensures.items ∙ c.as_slice-2.ensures.value in
    let m = mark-told c.args.source.now.names.now G c.rules-rules.ensures.grammar c.args.source.now.counts.now c.requires.counts q h kids n (mark_at c.args.source.now.marks.now) c.args.place
    (λ a. absurd (let t = c.in_ok-enter_call.ensures.all (subst (λ xs. AreClear (told Texts c.args.source.now.counts.now.rows q) (mark_at c.args.source.now.marks.now) 0 xs c.args.place) (sym v) a) in let u = c.if-branch.false in cc)) in
    call-marked c.args.source.now.names.now G c.rules-rules.ensures.grammar c.args.source.now.counts.now c.requires.counts q h (length c.args.source.now.names.now) (mark_at c.args.source.now.marks.now) c.args.place kids (reverse c.pop_many.new.stack.items) (reverse c.args.notes.now.items) (reverse c.args.opened.now.items) (reverse c.enter_call.new.opened.items) n c.in_ok-pop_many.ensures.taken o c.args.spots.now c.add.new.self c.in_ok-id-2.id c.extend_from_slice.new.self.items c.in_ok-id-2.ensures.number c.in_ok-id-2.ensures.spots st m ss rest l f
