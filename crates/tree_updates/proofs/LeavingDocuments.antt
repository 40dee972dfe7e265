-- Stores before rules are swept, and documents after edits that are allowed.
use Rattle.std.proofs.Common.{ℕ, ◌+◌, ◌*◌, ◌≤◌, arith}
use Rattle.std.proofs.lemmas.Nat.{mul-le}
use Rattle.plain_tree.specs.Allowed.{AreLawfulParts, IsAllowed}
use Rattle.plain_tree.specs.Lawful.{IsDocument}
use Rattle.plain_tree.specs.Tree.{Tree}
use Rattle.plain_tree.specs.declared.edit.Edit.{Edit}
use Rattle.plain_tree.proofs.LawfulDocuments.{placed-alone}
use Rattle.tree_updates.specs.Extents.{IsCodedBy, IsUnsweptFor, LeavesDocument}
use Rattle.tree_updates.specs.Stores.{IsStoreFor}
use Rattle.tree_updates.specs.declared.store.Store.{Store}

pub unswept : (s : Store) (t : Tree) → IsStoreFor s t → IsUnsweptFor s t
unswept s t h = record { stand = h.stand; small = h.small; counts = h.counts; index = h.index }

pub coded : (s : Store) (t : Tree) → IsUnsweptFor s t → IsCodedBy s t
coded s t h = record { document = h.stand.document; code = h.stand.code }

pub leaves : (t : Tree) (d : IsDocument t) (e : Edit) → IsAllowed t e → AreLawfulParts e → LeavesDocument t e
leaves t d e allowed parts = let p = placed-alone t d e allowed parts in record { alone = p.0; document = p.1 }

-- a store that doubled has no more than the bound
pub doubled : (x y m : ℕ) → y ≤ 2 * x → y ≤ (2 + m) * x + 0
doubled x y m h = let k : 2 * x ≤ (2 + m) * x = mul-le 2 x (2 + m) x (omega arith) (omega arith) in omega (arith, h, k)
