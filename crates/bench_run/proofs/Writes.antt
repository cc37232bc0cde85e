-- Laws of what is written: the texts of one step after another, and what a read leaves. Assumes nothing.
use Rattle.std.proofs.Common.{◌≡◌, ℕ, ◌+◌, ◌^◌, ◌<◌, ◌≤◌, List, [], ◌++◌, length, take, None, Some, IfSome, Result, Ok, Err, OnOk, IfOk, inl, inr, refl, sym, ap, ◌∙◌, append-nil, arith, length-append}
use Rattle.std.specs.declared.option.Option.{Option}
use Rattle.std.specs.Result.{MatchResult}
use Rattle.std.specs.Prelude.{is_ok, true}
use Rattle.std.specs.Io.KnownBytes.{Appends, Consumes, IsAtEnd}
use Rattle.std.proofs.KnownBytes.{Appends-nil, Appends-trans}
use Rattle.bench_output.specs.Output.{output}
use Rattle.bench_lines.specs.declared.Phase.TheVariants as phases
use Rattle.bench_lines.specs.declared.Machine.{Machine}
use Rattle.bench_lines.specs.Machine.{unread, Sound, Counted, Goes}
use Rattle.bench_areas.specs.declared.Tail.{Tail}
use Rattle.bench_areas.specs.Tail.{Room, tail_text}
use Rattle.numerals.specs.Text.{first as first_of}
use Rattle.bench_run.specs.Runs.{Last, Closed, Starts}
use Rattle.bench_run.specs.Writes.{Wrote, Writes, Turned}
use Rattle.bench_run.proofs.Whole.{then, still, nothing, starts_sound, starts_left, starts_all}

-- ---- the writer

pub wrote_none : (a : Option (List ℕ)) (m : Machine) (i : List ℕ) → Sound m → Counted m i → Wrote a a m i m i
wrote_none a m i s c = record { text = []; grew = Appends-nil a; gone = still m i i refl s c }

pub wrote_then : (a b c : Option (List ℕ)) (m m' m'' : Machine) (i i' i'' y : List ℕ) → Wrote a b m i m' i' → Appends b c y → Goes m' i' y m'' i''
    → Wrote a c m i m'' i''
wrote_then a b c m m' m'' i i' i'' y w p g =
    record {
      text = w.text ++ y;
      grew = Appends-trans a b c w.text y w.grew p;
      gone = then m m' m'' i w.text i' y i'' w.gone (g w.gone.sound w.gone.counted);
    }

-- once it is over, what is left of the input is passed by
pub wrote_over : (a b : Option (List ℕ)) (m m' : Machine) (i j k : List ℕ) → Wrote a b m i m' (j ++ k) → m'.bench.phase ≡ phases.Over → Wrote a b m i m' k
unfolding unread
wrote_over a b m m' i j k w e =
    record {
      text = w.text;
      grew = w.grew;
      gone = record {
        sound = w.gone.sound;
        counted =
            omega (arith, w.gone.counted, length-append (take m'.held m'.line) (j ++ k), length-append (take m'.held m'.line) k, length-append j k);
        says = w.gone.says ∙ ap (λ (t : List ℕ). w.text ++ t) (nothing m' (j ++ k) e ∙ sym (nothing m' k e));
      };
    }

-- ---- the reader

pub read_rest : (a b : Option (List ℕ)) (xs bs : List ℕ) → a ≡ Some xs → Consumes a b bs → (rest : List ℕ) × (b ≡ Some rest) × (xs ≡ bs ++ rest)
read_rest None b xs bs e c = absurd cc
read_rest (Some x) None xs bs e c = absurd c
read_rest (Some x) (Some y) xs bs e c = (y, refl, cc)

pub read_end : (b : Option (List ℕ)) (rest : List ℕ) → b ≡ Some rest → IsAtEnd b → rest ≡ []
read_end None rest e h = absurd cc
read_end (Some y) rest e h = cc

-- ---- the parts of a run

pub on_ok : {A E P Q : Type 0} (r : Result A E) → OnOk r P → (P → Q) → OnOk r Q
on_ok (Ok x) p f = f p
on_ok (Err e) p f = tt

pub if_ok : {A E : Type 0} {P Q : A → Type 0} (r : Result A E) → IfOk r P → ((x : A) → P x → Q x) → IfOk r Q
if_ok (Ok x) p f = f x p
if_ok (Err e) p f = tt

-- an error was changed, and the answer was not
pub was_ok : {A E D : Type 0} (r : Result A E) (m : Result A D) (x : A) (Q : E → Type 0) → MatchResult r (λ y. m ≡ Ok y) Q → is_ok m ≡ is_ok r
    → m ≡ Ok x → r ≡ Ok x
was_ok (Ok y) m x q c v e = cc
was_ok (Err y) m x q c v e = let z : is_ok m ≡ true = rw e refl in absurd cc

-- after the last piece: the line that is held, the end, and the areas; then it is over
pub finished : (a b c d : Option (List ℕ)) (m m' m'' : Machine) (x y : List ℕ) (t : Tail) → Last m x m' → Closed m' y t → Appends a b x → Appends b c y
    → (Room t → Appends c d (tail_text t m'.bench.areas)) → m''.bench.phase ≡ phases.Over → m''.bench.lines ≡ m'.bench.lines → m''.line ≡ m'.line
    → m''.held ≡ m'.held → Writes a d m [] m'' []
unfolding unread first_of
finished a b c d m m' m'' x y t last close p q r over lines line held s k =
    let g = last.0 s k in
    let still : m''.held ≡ 0 = held ∙ last.1 s k in
    let h = close g.sound g.counted (last.1 s k) in
    let z = tail_text t m'.bench.areas in
    record {
      text = x ++ (y ++ z);
      grew = Appends-trans a b d x _ p (Appends-trans b c d y _ q (r h.0));
      gone = record {
        sound = record { full = ap length line ∙ g.sound.full; room = omega (arith, still); plain = rw still refl; fits = rw over tt };
        counted = rw (lines, still) (omega (arith, g.counted));
        says =
            g.says ∙ ap (λ (w : List ℕ). x ++ w) h.1
            ∙ sym (ap (λ (w : List ℕ). (x ++ (y ++ z)) ++ w) (nothing m'' [] over) ∙ append-nil (x ++ (y ++ z)));
      };
    }

-- a turn that found the input's end
turned_end : (left a b : Option (List ℕ)) (m m' : Machine) (xs rest : List ℕ) → left ≡ Some rest → xs ≡ [] → rest ≡ []
    → m'.bench.phase ≡ phases.Over → Writes a b m [] m' [] → Sound m → Counted m xs → Turned left a b (length xs) m xs m'
turned_end left a b m m' xs rest is all empty over h s k =
    record { rest = rest; is_left = is; wrote = rw (all, empty) (h s (rw all at k)); nearer = inl over }

pub turned_over : (left left' a b : Option (List ℕ)) (m m' : Machine) (xs bs : List ℕ) → left ≡ Some xs → Consumes left left' bs → bs ≡ []
    → IsAtEnd left' → m'.bench.phase ≡ phases.Over → Writes a b m [] m' [] → Sound m → Counted m xs → Turned left' a b (length xs) m xs m'
turned_over left left' a b m m' xs bs e c z at_end over h s k =
    let (rest, is, q) = read_rest left left' xs bs e c in
    let empty = read_end left' rest is at_end in
    turned_end left' a b m m' xs rest is (q ∙ ap (λ (t : List ℕ). t ++ rest) z ∙ empty) empty over h s k

-- a turn that read something
turned_rest : (left a b : Option (List ℕ)) (m m' : Machine) (xs bs rest : List ℕ) → left ≡ Some rest → xs ≡ bs ++ rest → 0 < length bs
    → Writes a b m (bs ++ rest) m' rest → Sound m → Counted m xs → Turned left a b (length xs) m xs m'
turned_rest left a b m m' xs bs rest e q l h s k =
    record {
      rest = rest;
      is_left = e;
      wrote = rw q (h s (rw q at k));
      nearer = inr (omega (arith, ap length q, length-append bs rest, l));
    }

pub turned_on : (left left' a b : Option (List ℕ)) (m m' : Machine) (xs bs : List ℕ) → left ≡ Some xs → Consumes left left' bs → 0 < length bs
    → ((rest : List ℕ) → Writes a b m (bs ++ rest) m' rest) → Sound m → Counted m xs → Turned left' a b (length xs) m xs m'
turned_on left left' a b m m' xs bs e c l h s k =
    let (rest, is, q) = read_rest left left' xs bs e c in
    turned_rest left' a b m m' xs bs rest is q l (h rest) s k

-- ---- the whole run

pub running_none : (left a : Option (List ℕ)) (m : Machine) (xs : List ℕ) → Starts m → left ≡ Some xs → length xs + 1 < 2 ^ 64
    → Turned left a a 18446744073709551615 m xs m
running_none left a m xs start e few =
    record {
      rest = xs;
      is_left = e;
      wrote = wrote_none a m xs (starts_sound m start) (omega (arith, start.lines, ap length (starts_left m start xs)));
      nearer = inr (omega (arith, few));
    }

pub running_on : (left left' a b c : Option (List ℕ)) (n n' : ℕ) (m m' m'' : Machine) (xs : List ℕ) → n' + 1 ≡ n → (m'.bench.phase ≡ phases.Over → ⊥)
    → (r : Turned left a b n m xs m') → Turned left' b c (length r.rest) m' r.rest m'' → Turned left' a c n' m xs m''
running_on left left' a b c n n' m m' m'' xs l on r t =
    record {
      rest = t.rest;
      is_left = t.is_left;
      wrote = wrote_then a b c m m' m'' xs r.rest t.rest t.wrote.text r.wrote t.wrote.grew (λ _ _. t.wrote.gone);
      nearer = elim t.nearer [
        | inl h ↦ inl h
        | inr h ↦ elim r.nearer [ inl over ↦ absurd (on over) | inr k ↦ inr (omega (arith, h, k, l)) ]
      ];
    }

pub ran : (left a b : Option (List ℕ)) (n : ℕ) (m m' : Machine) (xs : List ℕ) → Starts m → Turned left a b n m xs m' → m'.bench.phase ≡ phases.Over
    → Appends a b (output xs)
ran left a b n m m' xs start r over =
    let w = r.wrote in
    rw (sym (starts_all m start xs) ∙ w.gone.says ∙ ap (λ (t : List ℕ). w.text ++ t) (nothing m' r.rest over) ∙ append-nil w.text) w.grew

-- the turns are not used up before it is over
pub ran_out : (left a b : Option (List ℕ)) (n : ℕ) (m m' : Machine) (xs : List ℕ) → Starts m → Turned left a b n m xs m' → n ≤ 0 → Appends a b (output xs)
ran_out left a b n m m' xs start r z =
    elim r.nearer [ inl over ↦ ran left a b n m m' xs start r over | inr h ↦ absurd (omega (arith, h, z)) ]

pub when_known : (left a b : Option (List ℕ)) → ((xs : List ℕ) → left ≡ Some xs → length xs + 1 < 2 ^ 64 → Appends a b (output xs))
    → IfSome left (λ xs. length xs + 1 < 2 ^ 64 → Appends a b (output xs))
when_known None a b h = tt
when_known (Some x) a b h = h x refl
