-- A store whose marks stand beside it while it is edited.
use Rattle.std.proofs.Common.{◌≡◌, ◌≤◌, List, [], ◌∷◌, ◌++◌, length, take, Result, Ok, Err, ap, arith, inl, inr, length-append}
use Rattle.plain_tree.specs.declared.edit.Edit.{Edit}
use Rattle.plain_tree.specs.Additions.{new_pairs}
use Rattle.plain_tree.specs.Edits.{edited}
use Rattle.plain_tree.specs.NodePairs.{Pair}
use Rattle.plain_tree.specs.Tree.{Tree}
use Rattle.fcns_encoding.specs.Interning.{Interns}
use Rattle.preorder_address.specs.declared.marks.Mark.{Mark}
use Rattle.tree_updates.specs.Stores.{Applies, IsStoreFor, NamesAfter}
use Rattle.tree_updates.specs.declared.store.Store.{Store}
use Rattle.tree_updates.specs.declared.store.EditError.{EditError}
use Rattle.tree_updates.specs.declared.store.EditError.TheVariants.{NoNode, NotAllowed, TooMany, Memory}

-- the store with other marks
abbrev pub marked : Store → List Mark → Store
marked s m = record { grammar = s.grammar; names = s.names; texts = s.texts; counts = s.counts; index = s.index; marks = m }

pub store-marked : (s : Store) (m : List Mark) (t : Tree) → IsStoreFor s t → IsStoreFor (marked s m) t
store-marked s m t i = record { stand = i.stand; small = i.small; swept = i.swept; counts = i.counts; index = i.index }

names-after : (error : EditError) (t : Tree) (e : Edit) (old new : List Pair) → NamesAfter error t e old new → (ps : List Pair) × Interns old ps new
names-after (NoNode count) t e old new n = ([], n)
names-after (NotAllowed kind) t e old new n = ([], n)
names-after TooMany t e old new n = ([], n)
names-after Memory t e old new (inl same) = ([], same)
names-after Memory t e old new (inr (may, (k, some))) = (take k (new_pairs t e), some)

-- whatever becomes of an edit, the names have grown at most
pub names-grow : (t : Tree) (e : Edit) (old new : Store) (result : Result (Unit {0}) EditError) → Applies t e old result new → (ps : List Pair) × Interns old.names ps new.names
names-grow t e old new (Ok u) a = (new_pairs t e, a.names)
names-grow t e old new (Err error) a = names-after error t e old.names new.names a.names

-- an edit of a store with other marks
pub applies-marked : (t : Tree) (e : Edit) (old new : Store) (m n : List Mark) (result : Result (Unit {0}) EditError) → Applies t e (marked old m) result new → Applies t e old result (marked new n)
applies-marked t e old new m n (Ok u) a = record { allowed = a.allowed; store = store-marked new n (edited t e) a.store; names = a.names; size = a.size; ranks = a.ranks }
applies-marked t e old new m n (Err error) a = record { cause = a.cause; store = store-marked new n t a.store; rules = a.rules; texts = a.texts; names = a.names }

names-longer : (old ps new : List Pair) → Interns old ps new → length old ≤ length new
names-longer old [] new i = omega (arith, ap (λ (ns : List Pair). length ns) i)
names-longer old (p ∷ ps) new (inl i) = names-longer old ps new i.1
names-longer old (p ∷ ps) new (inr i) = omega (arith, names-longer (old ++ p ∷ []) ps new i.1, length-append old (p ∷ []))

-- names that have grown and are no more than they were are the same
pub names-same : (old ps new : List Pair) → Interns old ps new → length new ≤ length old → new ≡ old
names-same old [] new i h = i
names-same old (p ∷ ps) new (inl i) h = names-same old ps new i.1 h
names-same old (p ∷ ps) new (inr i) h = absurd (omega (arith, h, names-longer (old ++ p ∷ []) ps new i.1, length-append old (p ∷ [])))
