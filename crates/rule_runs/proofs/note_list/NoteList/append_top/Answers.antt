use Rattle.std.proofs.Common.{◌∙◌, ◌≡◌, [], ◌∷◌, ◌++◌, ap, sym, arith, append_assoc, append-nil, drop, length, reverse, refl, take}
use Rattle.std.proofs.lemmas.List.{length-append}
use Rattle.std.proofs.Math.Seq.{take-append_seam, drop-append_seam}
use Rattle.rule_runs.proofs.Layering.{failed}
use Rattle.rule_runs.proofs.note_list.NoteList.append_top.Goals as goal

pub notes-init : goal.notes-init
notes-init g c = record {
  moved = ([], sym (append-nil c.args.self.now), refl);
  below = refl;
  begin = c.len-begin.ensures;
}

pub notes-preserved : goal.notes-preserved
notes-preserved g c =
    let m = c.notes.invariant.moved in
    let note = c.in-Some.note in
    record {
      moved = (m.0 ++ note ∷ [], c.in_ok-push.ensures.pushed ∙ ap (λ xs. xs ++ note ∷ []) m.1 ∙ append_assoc c.args.self.now m.0 (note ∷ []), m.2 ∙ ap (λ xs. m.0 ++ xs) c.in-Some.ensures.some ∙ sym (append_assoc m.0 (note ∷ []) c.pop.new.self.top));
      below = c.pop.ensures.below ∙ c.notes.invariant.below;
      begin = c.notes.invariant.begin;
    }

pub returns-in_err-push-clause-moved : goal.returns-in_err-push-clause-moved
returns-in_err-push-clause-moved g c = let m = c.notes.invariant.moved in (m.0, c.in_err-push.ensures.refused ∙ m.1, failed c.from_residual.result (m.0 ≡ reverse c.args.notes.now.top) c.from_residual.ensures.0)

pub reverse_from-requires : goal.reverse_from-requires
reverse_from-requires g c =
    let m = c.notes.invariant.moved in
    omega (arith, c.notes.invariant.begin, ap length m.1, length-append c.args.self.now m.0)

pub returns-clause-moved : goal.returns-clause-moved
returns-clause-moved g c =
    let m = c.notes.invariant.moved in
    let old = c.args.self.now in
    let all : c.args.notes.now.top ≡ m.0 = m.2 ∙ ap (λ xs. m.0 ++ xs) c.in_default.ensures.none ∙ append-nil m.0 in
    let front : take c.len-begin.result c.notes.self ≡ old = ap (λ n. take n c.notes.self) c.notes.invariant.begin ∙ ap (take (length old)) m.1 ∙ take-append_seam old m.0 in
    let back : drop c.len-begin.result c.notes.self ≡ m.0 = ap (λ n. drop n c.notes.self) c.notes.invariant.begin ∙ ap (drop (length old)) m.1 ∙ drop-append_seam old m.0 in
    (reverse m.0, c.reverse_from.ensures ∙ ap (λ xs. xs ++ reverse (drop c.len-begin.result c.notes.self)) front ∙ ap (λ xs. old ++ reverse xs) back, ap reverse (sym all))

pub returns-clause-below : goal.returns-clause-below
returns-clause-below g c = c.pop.ensures.below ∙ c.notes.invariant.below
