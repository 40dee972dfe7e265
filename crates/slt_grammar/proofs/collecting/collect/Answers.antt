use Rattle.std.proofs.Common.{◌≡◌, ◌∙◌, ◌+◌, ◌<◌, ◌≤◌, ◌∷◌, [], ℕ, List, Option, length, ap, sym, refl, arith, length-append}
use Rattle.rule_arena.specs.Terms.{Node, term_at, or_nothing}
use Rattle.rule_arena.proofs.CellLemmas.{some_of}
use Rattle.slt_grammar.proofs.Collections.{within, there, at-read, read-more, all-read}
use Rattle.slt_grammar.proofs.collecting.collect.Goals as goal

pub loop-at-init : goal.loop-at-init
loop-at-init c = record {
  read = λ ns t. record {
    items_are = rw c.clear.ensures.items refl;
    next = rw c.clear.ensures.items (sym (c.limit-limit.ensures.sound.first c.args.root.number ns t));
    few = rw c.clear.ensures.items (omega arith);
  };
  capacity = omega (arith, c.clear.ensures.capacity);
}

pub returns-in_err-push-clause-succeeds : goal.returns-in_err-push-clause-succeeds
returns-in_err-push-clause-succeeds c = λ ns t h.
    let R = c.loop-at.invariant.read ns t in
    let w : length c.loop-at.shapes.items < length ns = within ns (length c.loop-at.shapes.items) c.in-Some.key (sym R.next ∙ c.in-Some.is) in
    absurd (omega (arith, w, h, c.loop-at.invariant.capacity, c.in_err-push.ensures.full, c.loop-at.shapes.ok))

pub pass-at-requires : goal.pass-at-requires
pass-at-requires c =
    let s = some_of (term_at c.args.arena.now c.args.root.number) c.requires in
    at-read c.args.arena.now c.args.root.number s.0 c.loop-at.shapes.items c.loop-at.at c.in-Some.key s.1 (c.loop-at.invariant.read s.0 s.1) c.in-Some.is

pub loop-at-smaller : goal.loop-at-smaller
loop-at-smaller c =
    let s = some_of (term_at c.args.arena.now c.args.root.number) c.requires in
    let R = c.loop-at.invariant.read s.0 s.1 in
    let w : length c.loop-at.shapes.items < length s.0 = within s.0 (length c.loop-at.shapes.items) c.in-Some.key (sym R.next ∙ c.in-Some.is) in
    let l : length (or_nothing (term_at c.args.arena.now c.args.root.number)) ≡ length s.0 = ap (λ (o : Option (List Node)). length (or_nothing o)) s.1 in
    let m : length c.push.new.self.items ≡ length c.loop-at.shapes.items + 1 = ap length c.in_ok-push.ensures.items ∙ length-append c.loop-at.shapes.items (c.shape_of.result ∷ []) in
    omega (arith, w, l, m)

pub loop-at-preserved : goal.loop-at-preserved
loop-at-preserved c = record {
  read = λ ns t.
      let R = c.loop-at.invariant.read ns t in
      let x = at-read c.args.arena.now c.args.root.number ns c.loop-at.shapes.items c.loop-at.at c.in-Some.key t R c.in-Some.is in
      read-more ns c.loop-at.shapes.items c.push.new.self.items c.shape_of.result c.pass-at.result.1 R.items_are (c.shape_of.ensures x) c.in_ok-push.ensures.items (c.pass-at.ensures.next x)
      (within ns (length c.loop-at.shapes.items) c.in-Some.key (sym R.next ∙ c.in-Some.is));
  capacity = omega (arith, c.loop-at.invariant.capacity, c.push.ensures.capacity);
}

pub returns-clause-ok : goal.returns-clause-ok
returns-clause-ok c = λ ns t.
    let R = c.loop-at.invariant.read ns t in
    all-read ns c.loop-at.shapes.items c.loop-at.at R (le (length c.loop-at.shapes.items) (length ns) (λ h. let k = there ns (length c.loop-at.shapes.items) h in c.in_default.not-Some k.0 (R.next ∙ k.1)))
  where
    le : (m n : ℕ) → (m < n → ⊥) → n ≤ m
    le m n d = omega arith
