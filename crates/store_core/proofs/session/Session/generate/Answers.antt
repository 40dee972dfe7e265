use Rattle.std.proofs.Common.{ap, refl, inl}
use Rattle.std.proofs.lemmas.Result.{err_from_is_err_and}
use Rattle.tree_outside.proofs.Beside.{Stays-refl}
use Rattle.store_core.specs.StoreOf.{parts_of}
use Rattle.store_core.specs.Texts.{answer_line}
use Rattle.store_core.specs.Worlds.{told_files}
use Rattle.store_core.specs.declared.answer.Answer.TheVariants.{Nodes}
use Rattle.store_core.proofs.session.Session.generate.Goals as goal

pub returns-clause-comes : goal.returns-clause-comes
returns-clause-comes c = λ told count. record {
  parts = parts_of c.in_ok-made.made.store;
  encoded = c.in_ok-made.ensures.encoded;
  state = refl;
  files = Stays-refl (told_files told);
  printed = ap (λ n. answer_line (Nodes n)) c.in_ok-made.ensures.count;
}

pub returns-in_err-made-clause-comes : goal.returns-in_err-made-clause-comes
returns-in_err-made-clause-comes c = λ told count.
    let p = err_from_is_err_and c.from_residual.result c.from_residual.ensures.1 in
    rw (p.1, p.2) (record {
      begins = refl;
      cause = record { document = λ needs. absurd (cc); file = λ n reads. absurd (cc) };
      leaves = inl (record { state = refl; files = Stays-refl (told_files told) });
    })
