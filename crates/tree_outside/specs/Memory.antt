-- What is seen of the objects in memory.
use Rattle.std.specs.Prelude.{ℕ, List, [], None, refl}
use Rattle.std.specs.Coded.{Coded, code_by, coded×, coded_ℕ, coded_list, coded_option}
use Rattle.std.specs.FinMap.{code}
use Rattle.tree_outside.specs.Calls.{Calls}
use Rattle.tree_outside.specs.Files.{Files, Told}

pub record MemorySourceSeen : Type 0 where
  -- the bytes that are left
  pub left : List ℕ
  -- how many bytes a read gives at most
  pub piece : ℕ
  pub calls : Calls

pub record MemorySinkSeen : Type 0 where
  -- the bytes that it got
  pub got : List ℕ
  pub calls : Calls

pub record MemoryShelfSeen : Type 0 where
  pub told : Told
  -- how many bytes a read gives at most
  pub piece : ℕ
  pub calls : Calls

-- files, with nothing open and nothing pending
abbrev pub at_rest : Files → Told
at_rest files = record { files = files; left = []; name = []; pending = None }

abbrev pub coded_bytes : Coded (List ℕ)
coded_bytes = coded_list coded_ℕ

abbrev pub coded_told : Coded Told
coded_told =
    code_by _ (coded× (code coded_bytes coded_bytes) (coded× coded_bytes (coded× coded_bytes (coded_option coded_bytes))))
    (λ t. (t.files, (t.left, (t.name, t.pending))))
    (λ p. record { files = p.0; left = p.1.0; name = p.1.1.0; pending = p.1.1.1 })
    (λ _. refl)

abbrev pub coded_calls : Coded Calls
coded_calls =
    code_by _ (coded× coded_bytes (coded× coded_ℕ coded_ℕ)) (λ c. (c.fails, (c.made, c.faults)))
    (λ p. record { fails = p.0; made = p.1.0; faults = p.1.1 }) (λ _. refl)

abbrev pub coded_shelf : Coded MemoryShelfSeen
coded_shelf =
    code_by _ (coded× coded_told (coded× coded_ℕ coded_calls)) (λ s. (s.told, (s.piece, s.calls)))
    (λ p. record { told = p.0; piece = p.1.0; calls = p.1.1 }) (λ _. refl)
