use Rattle.std.proofs.Common.{◌≡◌, ◌⊎◌, inl, inr, ℕ, ◌∙◌, List, Some, IsTrue, sym, ap, subst}
use Rattle.std.specs.List.{Contains}
use Rattle.std.proofs.lemmas.Bool.{cases_eq}
use Rattle.std.proofs.lemmas.List.Elements.{Contains-get_or}
use Rattle.rule_arena.specs.declared.key.Key.{Key}
use Rattle.digram_index.specs.Linked.{Linked, is_marked}
use Rattle.digram_index.proofs.StartMarked.{starts-more}
use Rattle.preorder_address.specs.Marks.{AreMarks, IsMark}
use Rattle.preorder_address.specs.declared.marks.Mark.{Mark}
use Rattle.start_marks.proofs.marking.mark_nodes.Goals as goal

pub loop-mark-preserved : goal.loop-mark-preserved
loop-mark-preserved c =
    let I = c.loop-mark.invariant in
    let list = sym c.as_slice-mark-items.ensures in
    let at : Contains c.as_slice-mark-items.result.now c.mark-item.result =
    subst (Contains c.as_slice-mark-items.result.now) (sym c.mark-item.is) (Contains-get_or c.as_slice-mark-items.result.now c.loop-mark.mark-index c.mark-item.result c.loop-mark-test.true) in
    record {
      index = c.mark.ensures.index ∙ ap (λ (i : Linked). record i { marked = c.mark.new.self.marked }) I.index;
      only = λ k m. of k m (subst (λ (ms : List Mark). Contains ms c.mark-item.result) (sym list) at) (cases_eq k c.key.result.number);
      stand = λ names G are.
          let all : AreMarks names G c.as_slice-mark-items.result.now = subst (AreMarks names G) list are in
          let is : IsMark names G c.mark-item.result = subst (IsMark names G) (sym c.mark-item.is) (all c.loop-mark.mark-index c.mark-item.result c.loop-mark-test.true) in
          starts-more G c.loop-mark.index c.mark.new.self c.key.result is.place (is.there ∙ ap Some (sym c.key.ensures)) c.mark.ensures.others (I.stand names G are);
    }
  where
    of : (k : ℕ) → IsTrue (is_marked c.mark.new.self k) → Contains c.args.marks.now c.mark-item.result → (k ≡ c.key.result.number) ⊎ (k ≡ c.key.result.number → ⊥) → (mark : Mark) × Contains c.args.marks.now mark × (mark.key.number ≡ k)
    of k m is (inl x) = (c.mark-item.result, is, ap (λ (key : Key). key.number) (sym c.key.ensures) ∙ sym x)
    of k m is (inr x) = c.loop-mark.invariant.only k (sym (c.mark.ensures.others k x) ∙ m)
