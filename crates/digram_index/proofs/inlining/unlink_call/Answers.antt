use Rattle.std.proofs.Common.{◌≡◌, ◌⊎◌, inl, inr, ℕ, None, sym, ap, ◌∙◌}
use Rattle.digram_index.specs.Linked.{cell}
use Rattle.digram_index.specs.Partly.{IsAmong}
use Rattle.digram_index.proofs.inlining.unlink_call.Goals as goal

by : (c : goal.After-unlink_kids) → (n : ℕ) → (n ≡ c.args.call.number) ⊎ IsAmong c.args.arguments.now n → cell c.unlink_kids.new.index n ≡ None
by c n (inl z) = c.unlink_kids.ensures.stays n (ap (cell c.unlink_node.new.index) z ∙ c.unlink_node.ensures.free)
by c n (inr w) = ap (cell c.unlink_kids.new.index) (sym w.1.1.1) ∙ c.unlink_kids.ensures.free w.0 w.1.0 w.1.1.0

pub returns-clause-free : goal.returns-clause-free
returns-clause-free c = by c
