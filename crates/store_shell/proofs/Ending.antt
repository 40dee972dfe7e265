-- How a script ends.
use Rattle.std.specs.Prelude.{◌≡◌, ◌≤◌, ◌+◌, ◌^◌, ℕ, List, [], ◌∷◌, ◌++◌, length, take, Option, Some, None, IfSome, Result, Ok, Err, MatchResult, refl}
use Rattle.std.proofs.Common.{sym, ap, ◌∙◌, subst, inl, inr, arith, length-append}
use Rattle.std.proofs.lemmas.List.{append_assoc, append-nil, take-append-le, length-take-le}
use Rattle.tree_outside.specs.Outside.{Stays, Takes}
use Rattle.store_core.specs.Worlds.{World}
use Rattle.store_shell.specs.Lines.{IsCut}
use Rattle.store_words.specs.declared.words.Settings.{Settings}
use Rattle.store_shell.specs.Feeding.{Ends, Feeds}
use Rattle.store_shell.specs.Serving.{Script, IsWhole, Serves}
use Rattle.store_shell.specs.declared.script.Flow.{Flow}
use Rattle.store_shell.specs.declared.script.Flow.TheVariants as flow
use Rattle.store_shell.specs.declared.status.Status.{Status}
use Rattle.store_shell.specs.declared.status.Status.TheVariants as status
use Rattle.store_shell.proofs.Cuts.{cut_none, nothing}
use Rattle.store_shell.proofs.Pieces.{Feeds-on}
use Rattle.store_shell.proofs.Runs.{Did-nil, Did-one, Did-append, Stops-one, Stops-after, Quits-one, Quits-after}

-- ---- what was taken
pub Takes-nil : (a : Option (List ℕ)) → Takes a a []
Takes-nil None = tt
Takes-nil (Some all) = (all, refl, refl)

pub Takes-append : (a b c : Option (List ℕ)) (x y : List ℕ) → Takes a b x → Takes b c y → Takes a c (x ++ y)
Takes-append None b c x y h k = tt
Takes-append (Some all) b c x y h k =
    let P : Option (List ℕ) → Type 0 = λ o. Takes o c y in
    let r = subst P h.2 k in
    (r.0, h.1 ∙ (ap (λ z. x ++ z) r.1 ∙ sym (append_assoc x y r.0)), r.2)

pub Takes-stays : (a b c : Option (List ℕ)) (x : List ℕ) → Takes a b x → Stays b c → Takes a c x
Takes-stays None b c x h k = tt
Takes-stays (Some all) b c x h k =
    let P : Option (List ℕ) → Type 0 = λ o. Stays o c in
    (h.0, h.1, subst P h.2 k)

pub Takes-all : (a b : Option (List ℕ)) (x : List ℕ) → Takes a b x → IfSome b (λ rest. rest ≡ []) → IfSome a (λ all. all ≡ x)
Takes-all None b x h k = tt
Takes-all (Some all) b x h k =
    let P : Option (List ℕ) → Type 0 = λ o. IfSome o (λ rest. rest ≡ []) in
    h.1 ∙ (ap (λ z. x ++ z) (subst P h.2 k) ∙ append-nil x)

-- ---- the statuses
-- nothing was taken
abbrev pub no_script : Script
no_script = record { bytes = []; within = omega arith; lines = []; tail = []; cut = cut_none [] nothing }

abbrev pub script_of : (bytes : List ℕ) (lines : List (List ℕ)) (tail : List ℕ) → IsCut bytes lines tail → length bytes ≤ 2 ^ 30 → Script
script_of bytes lines tail cut within = record { bytes = bytes; within = within; lines = lines; tail = tail; cut = cut }

module _ {E : Type 0} {settings : Settings} where
  -- the unfinished last line was done or is quit, or the sink failed at it
  pub serves_last : (bytes : List ℕ) (left : Option (List ℕ)) (r : Result Flow E) (s : Status) (w m v : World) (x y z line : Option (List ℕ)) (f : Feeds {E = E} settings [] bytes (Ok flow.On) w m x y line) (within : length bytes ≤ 2 ^ 30) → IsWhole (script_of bytes f.lines f.tail f.cut within) left → MatchResult r (λ _. s ≡ status.Done) (λ _. s ≡ status.WriteFault) → Ends settings f.tail r m v y z → Serves settings (script_of bytes f.lines f.tail f.cut within) left s w v x z
  serves_last bytes left (Ok flow.On) s w m v x y z line f within whole is d =
      rw is (record {
        lines = f.lines ++ f.tail ∷ [];
        end = inr (whole, inl refl);
        did = Did-append f.lines (f.tail ∷ []) w m v x y z f.does.0 (Did-one f.tail m v d.0 y z d.1 d.2);
      })
  serves_last bytes left (Ok flow.Quit) s w m v x y z line f within whole is d =
      rw is (record {
        lines = f.lines ++ [];
        end = inr (whole, inr (Quits-after f.lines (f.tail ∷ []) [] (Quits-one f.tail d.0)));
        did = Did-append f.lines [] w m v x y z f.does.0 (rw d.1 (Did-nil m y z d.2));
      })
  serves_last bytes left (Err e) s w m v x y z line f within whole is d =
      rw is (inr (whole, Stops-after f.lines (f.tail ∷ []) w m v x y z f.does.0 (Stops-one f.tail m v d.0 y z d.1 d.2)))

  -- a piece at which the sink failed
  pub serves_failed : (bytes : List ℕ) (left : Option (List ℕ)) (e : E) (w v : World) (x z line : Option (List ℕ)) (f : Feeds settings [] bytes (Err e) w v x z line) (within : length bytes ≤ 2 ^ 30) → Serves settings (script_of bytes f.lines f.tail f.cut within) left status.WriteFault w v x z
  serves_failed bytes left e w v x z line f within = inl f.does

  -- a piece in which a quit ended
  pub serves_quit : (bytes : List ℕ) (left : Option (List ℕ)) (w v : World) (x z line : Option (List ℕ)) (f : Feeds {E = E} settings [] bytes (Ok flow.Quit) w v x z line) (within : length bytes ≤ 2 ^ 30) → Serves settings (script_of bytes f.lines f.tail f.cut within) left status.Done w v x z
  serves_quit bytes left w v x z line f within = record { lines = f.does.0; end = inl f.does.1; did = f.does.2 }

  -- one read more
  pub fed_more : (bytes buf rest : List ℕ) (n : ℕ) (r : Result Flow E) (w m v : World) (x y z line line' : Option (List ℕ)) → n ≤ length buf → (f : Feeds {E = E} settings [] bytes (Ok flow.On) w m x y line) → Feeds settings f.tail (take n (buf ++ rest)) r m v y z line' → Feeds settings [] (bytes ++ take n buf) r w v x z line'
  fed_more bytes buf rest n r w m v x y z line line' le f k =
      let P : List ℕ → Type 0 = λ c. Feeds settings f.tail c r m v y z line' in
      Feeds-on [] bytes (take n buf) r w m v x y z line line' f (subst P (take-append-le n buf rest le) k)

pub count_more : (bytes buf : List ℕ) (n taken : ℕ) → n ≤ length buf → length bytes ≡ taken → length (bytes ++ take n buf) ≡ taken + n
count_more bytes buf n taken le e = omega (arith, length-append bytes (take n buf), length-take-le n buf le)
