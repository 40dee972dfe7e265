-- Runs of the machine, one after another.
use Rattle.std.specs.Prelude.{◌≡◌, ◌≤◌, ◌+◌, ℕ, List, [], ◌∷◌, ◌++◌, Option, Result, Ok, Err, refl}
use Rattle.std.proofs.Common.{sym, ap, ◌∙◌, subst, arith}
use Rattle.std.proofs.lemmas.List.{append_assoc, append-nil}
use Rattle.std.proofs.lemmas.List.Elements.{All-nil, All-cons, All-append}
use Rattle.tree_outside.specs.Outside.{Gets, GetsFront, Stays}
use Rattle.tree_outside.proofs.Beside.{Stays-refl}
use Rattle.store_core.specs.Acts.{Act}
use Rattle.store_core.specs.Machine.{Comes}
use Rattle.store_core.specs.Worlds.{World, IsLawfulState}
use Rattle.store_core.specs.declared.answer.Answer.{Answer}
use Rattle.store_core.specs.declared.answer.Refusal.{Refusal}
use Rattle.store_core.specs.declared.answer.Refusal.TheVariants as no
use Rattle.store_words.specs.declared.words.Settings.{Settings}
use Rattle.store_shell.specs.Feeding.{Goes}
use Rattle.store_shell.specs.Forms.{Form, Empty, Long, Bad, Quit, Command, IsForm}
use Rattle.store_shell.specs.Runs.{One, DoesLine, Run, RoseBy, fault_of, line_fault, line_faults}
use Rattle.store_shell.specs.Serving.{Did, Stops, Quits}
use Rattle.store_shell.proofs.OneForm.{no_quit}
use Rattle.tree_outside.proofs.Sinks.{Gets-append, Gets-stays}

-- the line isn't quit
abbrev NoQuit : List ℕ → Type 0
NoQuit line = IsForm line Quit → ⊥

-- ---- faults of the shelf
outcome-faults : (settings : Settings) (act : Act) (w v : World) (text : List ℕ) (outcome : Result Answer Refusal) → w.count ≤ v.count → Comes settings act w text outcome v → RoseBy (fault_of outcome) w.count v.count
outcome-faults settings act w v text (Ok answer) later h = omega (arith, later)
outcome-faults settings act w v text (Err no.ReadFault) later h = h.cause.2
outcome-faults settings act w v text (Err no.WriteFault) later h = h.cause.2
outcome-faults settings act w v text (Err refusal) later h = omega (arith, later)

one-faults : (settings : Settings) (form : Form) (w v : World) (out : List ℕ) (one : One settings form w out v) → RoseBy (line_fault settings form w out v one) w.count v.count
one-faults settings Empty w v out one = rw one.1 (omega arith)
one-faults settings Long w v out one = rw one.1 (omega arith)
one-faults settings Bad w v out one = rw one.1 (omega arith)
one-faults settings Quit w v out one = rw one.1 (omega arith)
one-faults settings (Command act) w v out one = outcome-faults settings act w v one.text one.outcome one.later one.comes

-- so many faults, and then so many more
faults-more : (n m before mid now : ℕ) → RoseBy n before mid → RoseBy m mid now → RoseBy (n + m) before now
faults-more n m before mid now h k = omega (arith, h, k)

Run-faults : (settings : Settings) (lines : List (List ℕ)) (w v : World) (out : List ℕ) (run : Run settings lines w out v) → RoseBy (line_faults settings lines w out v run) w.count v.count
Run-faults settings [] w v out run = rw run.1 (omega arith)
Run-faults settings (l ∷ ls) w v out run =
    faults-more (line_fault settings run.3.form w run.1 run.0 run.3.does) (line_faults settings ls run.0 run.2 v run.4) w.count run.0.count v.count
    (one-faults settings run.3.form w run.0 run.1 run.3.does) (Run-faults settings ls run.0 v run.2 run.4)

-- the lines that were done, and one behind them
Stops-faults : (settings : Settings) (lines : List (List ℕ)) (last : List ℕ) (w m v : World) (x y : Option (List ℕ)) (text : List ℕ)
    (did : Did settings lines w m x y) (does : DoesLine settings last m text v)
    → RoseBy (line_faults settings lines w did.out m did.ran + line_fault settings does.form m text v does.does) w.count v.count
Stops-faults settings lines last w m v x y text did does =
    faults-more (line_faults settings lines w did.out m did.ran) (line_fault settings does.form m text v does.does) w.count m.count v.count did.faults (one-faults settings does.form m v text does.does)

-- ---- runs
pub Run-one : {settings : Settings} (line : List ℕ) (w v : World) (out : List ℕ) → DoesLine settings line w out v → Run settings (line ∷ []) w out v
Run-one line w v out h = (v, out, [], h, (refl, refl), sym (append-nil out))

pub Run-append : (settings : Settings) (ls ms : List (List ℕ)) (w m v : World) (a b : List ℕ) → Run settings ls w a m → Run settings ms m b v → Run settings (ls ++ ms) w (a ++ b) v
Run-append settings [] ms w m v a b h k =
    let P : World → Type 0 = λ u. Run settings ms u b v in
    let Q : List ℕ → Type 0 = λ z. Run settings ms w (z ++ b) v in
    subst Q (sym h.0) (subst P h.1 k)
Run-append settings (l ∷ ls) ms w m v a b h k =
    (h.0, h.1, h.2 ++ b, h.3, Run-append settings ls ms h.0 m v h.2 b h.4 k, ap (λ z. z ++ b) h.5 ∙ append_assoc h.1 h.2 b)

pub Did-nil : {settings : Settings} (w : World) (x y : Option (List ℕ)) → Stays x y → Did settings [] w w x y
Did-nil {settings} w x y h = record { no_quit = All-nil NoQuit; out = []; ran = (refl, refl); got = Gets-stays x y h; faults = Run-faults settings [] w w [] (refl, refl) }

pub Did-one : {settings : Settings} (line : List ℕ) (w v : World) (out : List ℕ) (x y : Option (List ℕ)) → Goes settings line w out v → Gets x y out → Did settings (line ∷ []) w v x y
Did-one {settings} line w v out x y h g =
    let run = Run-one line w v out h.does in
    record {
      no_quit = All-cons NoQuit line [] h.no_quit (All-nil NoQuit);
      out = out;
      ran = run;
      got = g;
      faults = Run-faults settings (line ∷ []) w v out run;
    }

pub Did-append : {settings : Settings} (ls ms : List (List ℕ)) (w m v : World) (x y z : Option (List ℕ)) → Did settings ls w m x y → Did settings ms m v y z → Did settings (ls ++ ms) w v x z
Did-append {settings} ls ms w m v x y z h k =
    let run = Run-append settings ls ms w m v h.out k.out h.ran k.ran in
    record {
      no_quit = All-append NoQuit ls ms h.no_quit k.no_quit;
      out = h.out ++ k.out;
      ran = run;
      got = Gets-append x y z h.out k.out h.got k.got;
      faults = Run-faults settings (ls ++ ms) w v (h.out ++ k.out) run;
    }

pub Stops-one : {settings : Settings} (line : List ℕ) (w v : World) (text : List ℕ) (x y : Option (List ℕ)) → Goes settings line w text v → GetsFront x y text → Stops settings (line ∷ []) w v x y
Stops-one {settings} line w v text x y h g = record {
  done = [];
  last = line;
  later = [];
  whole = refl;
  no_quit = h.no_quit;
  mid = w;
  between = x;
  did = Did-nil w x x (Stays-refl x);
  text = text;
  does = h.does;
  got = g;
  faults = Stops-faults settings [] line w w v x x text (Did-nil w x x (Stays-refl x)) h.does;
}

-- lines that come later change nothing
pub Stops-more : {settings : Settings} (ls ms : List (List ℕ)) (w v : World) (x y : Option (List ℕ)) → Stops settings ls w v x y → Stops settings (ls ++ ms) w v x y
Stops-more ls ms w v x y s = record {
  done = s.done;
  last = s.last;
  later = s.later ++ ms;
  whole = ap (λ all. all ++ ms) s.whole ∙ append_assoc s.done (s.last ∷ s.later) ms;
  no_quit = s.no_quit;
  mid = s.mid;
  between = s.between;
  did = s.did;
  text = s.text;
  does = s.does;
  got = s.got;
  faults = s.faults;
}

pub Stops-after : {settings : Settings} (ls ms : List (List ℕ)) (w m v : World) (x y z : Option (List ℕ)) → Did settings ls w m x y → Stops settings ms m v y z → Stops settings (ls ++ ms) w v x z
Stops-after {settings} ls ms w m v x y z h s =
    let did = Did-append ls s.done w m s.mid x y s.between h s.did in
    record {
      done = ls ++ s.done;
      last = s.last;
      later = s.later;
      whole = ap (λ all. ls ++ all) s.whole ∙ sym (append_assoc ls s.done (s.last ∷ s.later));
      no_quit = s.no_quit;
      mid = s.mid;
      between = s.between;
      did = did;
      text = s.text;
      does = s.does;
      got = s.got;
      faults = Stops-faults settings (ls ++ s.done) s.last w s.mid v x s.between s.text did s.does;
    }

pub Quits-one : (line : List ℕ) → IsForm line Quit → Quits (line ∷ []) []
Quits-one line h = record { quit = line; says = h; behind = []; whole = refl }

-- lines that come later change nothing
pub Quits-more : (ls ms done : List (List ℕ)) → Quits ls done → Quits (ls ++ ms) done
Quits-more ls ms done q = record {
  quit = q.quit;
  says = q.says;
  behind = q.behind ++ ms;
  whole = ap (λ all. all ++ ms) q.whole ∙ append_assoc done (q.quit ∷ q.behind) ms;
}

pub Quits-after : (ls ms done : List (List ℕ)) → Quits ms done → Quits (ls ++ ms) (ls ++ done)
Quits-after ls ms done q = record {
  quit = q.quit;
  says = q.says;
  behind = q.behind;
  whole = ap (λ all. ls ++ all) q.whole ∙ sym (append_assoc ls done (q.quit ∷ q.behind));
}

-- a line of another form
pub Goes-as : {settings : Settings} (line : List ℕ) (form : Form) (w v : World) (out : List ℕ) → (form ≡ Quit → ⊥) → IsForm line form → One settings form w out v → Goes settings line w out v
Goes-as line form w v out ne h one = record { no_quit = no_quit line form h ne; does = record { form = form; says = h; does = one } }

-- ---- lawful states
one_lawful : (settings : Settings) (form : Form) (w v : World) (out : List ℕ) → IsLawfulState w.state → One settings form w out v → IsLawfulState v.state
one_lawful settings Empty w v out h one = subst (λ (u : World). IsLawfulState u.state) (sym one.1) h
one_lawful settings Long w v out h one = subst (λ (u : World). IsLawfulState u.state) (sym one.1) h
one_lawful settings Bad w v out h one = subst (λ (u : World). IsLawfulState u.state) (sym one.1) h
one_lawful settings Quit w v out h one = subst (λ (u : World). IsLawfulState u.state) (sym one.1) h
one_lawful settings (Command act) w v out h one = one.after

pub Run-lawful : (settings : Settings) (lines : List (List ℕ)) (w v : World) (out : List ℕ) → IsLawfulState w.state → Run settings lines w out v → IsLawfulState v.state
Run-lawful settings [] w v out h r = subst (λ (u : World). IsLawfulState u.state) (sym r.1) h
Run-lawful settings (l ∷ ls) w v out h r = Run-lawful settings ls r.0 v r.2 (one_lawful settings r.3.form w r.0 r.1 h r.3.does) r.4
