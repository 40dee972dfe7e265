use Rattle.std.proofs.Common.{◌≡◌, ◌+◌, ◌-◌, ◌≤◌, ℕ, Option, None, Some, ap, sym, ◌∙◌, subst, arith}
use Rattle.std.specs.Prelude.{IfSome, is_some}
use Rattle.plain_tree.specs.Siblings.{begins_text}
use Rattle.plain_tree.specs.Tree.{Tree, node_count}
use Rattle.preorder_address.specs.Spots.{IsSpot, place_at}
use Rattle.preorder_address.specs.TreeNumbers.{kind_at}
use Rattle.preorder_address.specs.declared.spot.Spot.{Spot}
use Rattle.tree_updates.specs.Extents.{IsSpotOrEnd}
use Rattle.tree_updates.specs.declared.store.Store.{Store}
use Rattle.tree_updates.proofs.MeetingTexts.{no-text-before, no-text-behind, other-behind, text-behind, texts-meet}
use Rattle.tree_updates.proofs.NodeExtents.{extent-low}
use Rattle.tree_updates.proofs.SpotPlaces.{last-behind, next-behind, none-behind, place-fits}
use Rattle.tree_updates.proofs.meeting_text.meeting_texts.Goals as goal

end-there : (s : Store) (t : Tree) (n : ℕ) (o : Option Spot) → o ≡ None → IsSpotOrEnd s t n o → node_count t ≤ n
end-there s t n o e h = subst (IsSpotOrEnd s t n) e h

spot-there : (s : Store) (t : Tree) (n : ℕ) (o : Option Spot) (right : Spot) → o ≡ Some right → IsSpotOrEnd s t n o → IsSpot s.names s.grammar.rules n right
spot-there s t n o right e h = subst (IsSpotOrEnd s t n) e h

pub returns-in_default-clause-apart : goal.returns-in_default-clause-apart
returns-in_default-clause-apart g c = λ t i x.
    let n = c.args.number in
    let X = x.extent in
    let low = extent-low t n c.args.span.extent X in
    let high = end-there c.args.store.now t (n + c.args.span.extent.nodes) c.args.span.behind c.in_default.is x.behind in
    no-text-behind t i.stand.document n c.requires.behind low X.here X.behind X.from_is (ap begins_text (none-behind t n low X.here X.behind X.from_is (omega (arith, high, X.nodes))))

pub returns-then-not-is_text-clause-apart : goal.returns-then-not-is_text-clause-apart
returns-then-not-is_text-clause-apart g c = λ t i x.
    let a = c.args.store.now in
    let n = c.args.number in
    let m : ℕ = c.args.number + c.args.span.extent.nodes in
    let X = x.extent in
    let low = extent-low t n c.args.span.extent X in
    let S = spot-there a t m c.args.span.behind c.in-Some.right c.in-Some.is x.behind in
    let kind = c.kind.ensures a.grammar.rules m t S i.stand.code ∙ ap (λ (j : ℕ). kind_at t (n + j)) X.nodes in
    no-text-behind t i.stand.document n c.requires.behind low X.here X.behind X.from_is
    (other-behind t i.stand.document n low X.here X.behind X.from_is c.kind.result kind (sym c.is_text.ensures ∙ c.if-not-is_text.true))

pub overflow_mul-extent : goal.overflow_mul-extent
overflow_mul-extent g c =
    let a = c.args.store.now in
    let n = c.args.number in
    let r = c.requires.store in
    let X = r.2.extent in
    let low = extent-low r.0 n c.args.span.extent X in
    omega (arith, place-fits r.0 n low X.here X.behind X.from_is c.place.result (c.place.ensures a.names a.grammar.rules n r.0 c.requires.spot r.1.stand.code), X.nodes, r.1.small)

pub overflow_add-place : goal.overflow_add-place
overflow_add-place g c =
    let a = c.args.store.now in
    let n = c.args.number in
    let r = c.requires.store in
    let X = r.2.extent in
    let low = extent-low r.0 n c.args.span.extent X in
    omega (arith, place-fits r.0 n low X.here X.behind X.from_is c.place.result (c.place.ensures a.names a.grammar.rules n r.0 c.requires.spot r.1.stand.code), X.nodes, r.1.small)

pub returns-then-place-extent-clause-apart : goal.returns-then-place-extent-clause-apart
returns-then-place-extent-clause-apart g c = λ t i x.
    let a = c.args.store.now in
    let n = c.args.number in
    let m : ℕ = c.args.number + c.args.span.extent.nodes in
    let X = x.extent in
    let low = extent-low t n c.args.span.extent X in
    let S = spot-there a t m c.args.span.behind c.in-Some.right c.in-Some.is x.behind in
    let here = c.place.ensures a.names a.grammar.rules n t c.requires.spot i.stand.code in
    let next = c.place-2.ensures a.names a.grammar.rules m t S i.stand.code ∙ ap (λ (j : ℕ). place_at t (n + j)) X.nodes in
    no-text-behind t i.stand.document n c.requires.behind low X.here X.behind X.from_is
    (ap begins_text (last-behind t n low X.here X.behind X.from_is c.place.result c.place-2.result here next (λ f. c.if-place-extent.true (omega (arith, f, X.nodes)))))

pub returns-in_default-2-clause-apart : goal.returns-in_default-2-clause-apart
returns-in_default-2-clause-apart g c = λ t i x.
    no-text-before t i.stand.document c.args.number c.requires.behind (extent-low t c.args.number c.args.span.extent x.extent) (sym (c.in_ok-left.ensures.before t i) ∙ ap is_some c.in_default-2.is)

pub overflow_add-result : goal.overflow_add-result
overflow_add-result g c =
    let a = c.args.store.now in
    let n = c.args.number in
    let r = c.requires.store in
    let X = r.2.extent in
    let low = extent-low r.0 n c.args.span.extent X in
    omega (arith, place-fits r.0 n low X.here X.behind X.from_is c.place.result (c.place.ensures a.names a.grammar.rules n r.0 c.requires.spot r.1.stand.code), low, X.nodes, r.1.small)

pub returns-clause-meets : goal.returns-clause-meets
returns-clause-meets g c = λ t i x.
    let a = c.args.store.now in
    let n : ℕ = c.args.number in
    let m : ℕ = c.args.number + c.args.span.extent.nodes in
    let X = x.extent in
    let d = i.stand.document in
    let low = extent-low t n c.args.span.extent X in
    let S = spot-there a t m c.args.span.behind c.in-Some.right c.in-Some.is x.behind in
    let here = c.place.ensures a.names a.grammar.rules n t c.requires.spot i.stand.code in
    let next = c.place-2.ensures a.names a.grammar.rules m t S i.stand.code ∙ ap (λ (j : ℕ). place_at t (n + j)) X.nodes in
    let kind = c.kind.ensures a.grammar.rules m t S i.stand.code ∙ ap (λ (j : ℕ). kind_at t (n + j)) X.nodes in
    let some = next-behind t n low X.here X.behind X.from_is c.place.result c.place-2.result here next (omega (arith, c.if-place-extent.false, X.nodes)) in
    let w = text-behind t d n low X.here X.behind X.from_is c.kind.result kind (sym c.is_text.ensures ∙ c.if-not-is_text.false) some in
    let before = sym (c.in_ok-left.ensures.before t i) ∙ ap is_some c.in-Some-2.is in
    record {
      between = texts-meet t d n c.requires.behind low X.here X.behind X.from_is before w.0 w.1 w.2 (c.args.number + c.args.span.extent.nodes) (ap (λ (j : ℕ). n + j) X.nodes);
      left = subst (λ (o : Option Spot). IfSome o (IsSpot a.names a.grammar.rules (n - 1))) c.in-Some-2.is c.in_ok-left.ensures.spot;
      right = S;
    }
