use Rattle.std.proofs.Common.{◌≡◌, ◌∷◌, [], ◌∙◌, ap, sym, subst, refl, length, get_or, reverse}
use Rattle.std.proofs.lemmas.List.{reverse-append}
use Rattle.grammar_file.specs.TextWalks.{AreUnfinished, coming, list_at}
use Rattle.grammar_file.specs.declared.text_lists.Mark.TheVariants.{Valued}
use Rattle.grammar_file.specs.declared.text_lists.Part.TheVariants.{Node, Segment}
use Rattle.grammar_file.proofs.MarkLemmas.{thins-is, thins-over}
use Rattle.grammar_file.proofs.TextWalking.{earlier, some-left, told-segment}
use Rattle.grammar_file.proofs.text_walk.next_mark.Goals as goal

pub levels-smaller : goal.levels-smaller
levels-smaller c =
    let level = c.levels.level in
    let is = ap (λ ps. get_or ps level.next (Node (Valued 0))) (sym c.parts_of-parts.ensures) ∙ c.in-Segment.is in
    earlier c.requires.lists.0 c.requires.lists.1 c.args.lists.now c.requires.lists.2 level (Segment c.in-Segment.rule c.in-Segment.segment) c.levels.invariant.unfinished.0 (Node (Valued 0)) is c.in-Segment.rule c.in-Segment.segment refl

pub levels-preserved : goal.levels-preserved
levels-preserved c =
    let level = c.levels.level in
    let lists = c.args.lists.now in
    let p = Segment c.in-Segment.rule c.in-Segment.segment in
    let lt = c.levels.invariant.unfinished.0 in
    let is = ap (λ ps. get_or ps level.next (Node (Valued 0))) (sym c.parts_of-parts.ensures) ∙ c.in-Segment.is in
    let count : length (list_at lists level) ≡ length c.parts_of-parts.result.now = ap length (sym c.parts_of-parts.ensures) in
    record {
      unfinished = (some-left c.requires.lists.0 c.requires.lists.1 lists c.requires.lists.2 level p lt (Node (Valued 0)) is c.in-Segment.rule c.in-Segment.segment refl, c.in_ok-leave_part.ensures.unfinished lists count c.levels.invariant.unfinished.1);
      same = λ names G all.
          thins-over _ (coming lists names G (level ∷ reverse c.levels.levels.items)) _
          (told-segment names G lists all level p lt (Node (Valued 0)) is c.in-Segment.rule c.in-Segment.segment refl (reverse c.levels.levels.items) (reverse c.leave_part.new.levels.items) (c.in_ok-leave_part.ensures.rest lists names G count))
          (c.levels.invariant.same names G all);
    }

pub levels-init : goal.levels-init
levels-init c =
    let level = c.in-Some.level in
    let lists = c.args.lists.now in
    let is : reverse c.args.levels.now.items ≡ level ∷ reverse c.pop.new.self.items = ap reverse c.in-Some.ensures.items ∙ reverse-append c.pop.new.self.items (level ∷ []) in
    let unfinished : AreUnfinished lists (level ∷ reverse c.pop.new.self.items) = subst (AreUnfinished lists) is c.requires.unfinished in
    record {
      unfinished = unfinished;
      same = λ names G all. thins-is (coming lists names G (level ∷ reverse c.pop.new.self.items)) (coming lists names G (reverse c.args.levels.now.items)) (ap (coming lists names G) (sym is));
    }
