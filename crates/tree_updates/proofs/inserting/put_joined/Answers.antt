use Rattle.std.proofs.Common.{◌≡◌, ◌<◌, ℕ, length, sym, subst}
use Rattle.tree_updates.specs.Extents.{IsUnsweptFor}
use Rattle.tree_updates.specs.Joinings.{valued_texts}
use Rattle.tree_updates.proofs.JoinedStores.{back-place, front-place, ranked-low, ready}
use Rattle.tree_updates.proofs.inserting.put_joined.Goals as goal

pub set_text-requires-clause-place : goal.set_text-requires-clause-place
set_text-requires-clause-place g c = λ w e.
    let r = c.requires.comes in
    let a = c.args.store.now in
    subst (λ (i : ℕ). i < length a.texts.texts) (sym c.saturating_sub.ensures) (front-place a r.0 r.2 c.args.number c.args.rank r.1 c.args.joined r.3 (ranked-low r.0 c.args.number c.args.rank r.3.rank_is) w e)

pub set_text-requires-2-clause-place : goal.set_text-requires-2-clause-place
set_text-requires-2-clause-place g c = λ w e.
    let r = c.requires.comes in
    let a = c.args.store.now in
    let j = c.args.joined in
    let first = subst (λ (i : ℕ). c.set_text.new.texts.texts ≡ valued_texts a.texts.texts i j.front) c.saturating_sub.ensures c.set_text.ensures.texts in
    back-place a r.0 r.2 c.args.number c.args.rank r.1 j r.3 (ranked-low r.0 c.args.number c.args.rank r.3.rank_is) c.set_text.new.texts first w e

pub put_rest-requires-clause-comes : goal.put_rest-requires-clause-comes
put_rest-requires-clause-comes g c =
    let r = c.requires.comes in
    let a = c.args.store.now in
    let j = c.args.joined in
    let first = subst (λ (i : ℕ). c.set_text.new.texts.texts ≡ valued_texts a.texts.texts i j.front) c.saturating_sub.ensures c.set_text.ensures.texts in
    let R = ready a r.0 r.2 c.args.number c.args.rank r.1 j r.3 (ranked-low r.0 c.args.number c.args.rank r.3.rank_is) c.set_text.new.texts c.set_text-2.new.texts first c.set_text-2.ensures.texts in
    (R.tree, r.1, R.store, r.3.code, R.comes)

pub returns-clause-store : goal.returns-clause-store
returns-clause-store g c = λ t F u M.
    let a = c.args.store.now in
    let j = c.args.joined in
    let first = subst (λ (i : ℕ). c.set_text.new.texts.texts ≡ valued_texts a.texts.texts i j.front) c.saturating_sub.ensures c.set_text.ensures.texts in
    let R = ready a t u c.args.number c.args.rank F j M (ranked-low t c.args.number c.args.rank M.rank_is) c.set_text.new.texts c.set_text-2.new.texts first c.set_text-2.ensures.texts in
    subst (IsUnsweptFor c.put_rest.new.store) (sym R.turns) (c.put_rest.ensures.store R.tree F R.store M.code R.comes)
