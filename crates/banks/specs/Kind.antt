-- What a bank is, and the laws that every bank shows.
use Rattle.std.specs.Prelude.{◌≡◌, ℕ, ◌*◌, ◌%◌, ◌^◌, ◌<◌, ◌≤◌, Bool, true, false, ◌||◌, ◌==◌}
use Rattle.banks.specs.declared.loss.Loss.{Loss}

-- The widths that a name can have, in bytes.
abbrev pub is_width : ℕ → Bool
is_width n = n == 1 || (n == 2 || (n == 4 || n == 8))

-- A bank's description, all that it answers besides looks: how many names it has, numbered from 0; the width of a name in bytes; whether a name touches another, so that a put under the one may change the look of the other; and whether a name is kept over a loss.
pub record Description : Type 0 where
  pub names : ℕ
  pub width : ℕ → ℕ
  pub touches : ℕ → ℕ → Bool
  pub kept_over : Loss → ℕ → Bool

-- A kind of bank: what a bank of the kind can mean, the description that follows from a meaning, the look (the number that a name holds), the put of a word under a name, and a loss, given a word. Meaning and arguments alone decide each answer and each new meaning.
pub record Kind : Type 1 where
  pub Meaning : Type 0
  pub describe : Meaning → Description
  pub look : Meaning → ℕ → ℕ
  pub put : Meaning → ℕ → ℕ → Meaning
  pub lose : Meaning → Loss → ℕ → Meaning

-- The laws of a description.
pub record Described (d : Description) : Type 0 where
  -- There are 1 to 64 names.
  pub some : 1 ≤ d.names
  pub few : d.names ≤ 64
  -- Each is 1, 2, 4 or 8 bytes wide.
  pub widths : (a : ℕ) → a < d.names → is_width (d.width a) ≡ true
  -- Each name touches itself.
  pub touches_itself : (a : ℕ) → a < d.names → d.touches a a ≡ true
  -- Touching is mutual.
  pub touches_back : (a b : ℕ) → d.touches a b ≡ d.touches b a
  -- A number that is no name has width 0, touches nothing and is not kept.
  pub no_width : (a : ℕ) → d.names ≤ a → d.width a ≡ 0
  pub no_touch : (a b : ℕ) → d.names ≤ a → d.touches a b ≡ false
  pub not_over : (l : Loss) (a : ℕ) → d.names ≤ a → d.kept_over l a ≡ false

-- The laws of a kind of bank.
pub record Laws (k : Kind) : Type 0 where
  -- Every bank keeps the laws of descriptions.
  pub described : (m : k.Meaning) → Described (k.describe m)
  -- A change leaves the description.
  pub put_stays : (m : k.Meaning) (a w : ℕ) → k.describe (k.put m a w) ≡ k.describe m
  pub loss_stays : (m : k.Meaning) (l : Loss) (w : ℕ) → k.describe (k.lose m l w) ≡ k.describe m
  -- A look stays within the width: so the look of a number that is no name is 0.
  pub look_fits : (m : k.Meaning) (a : ℕ) → k.look m a < 2 ^ (8 * (k.describe m).width a)
  -- A put is seen: the name then holds the word, cut to its width.
  pub put_seen : (m : k.Meaning) (a w : ℕ) → a < (k.describe m).names → k.look (k.put m a w) a ≡ w % 2 ^ (8 * (k.describe m).width a)
  -- A put leaves the look of each name that it does not touch.
  pub put_leaves : (m : k.Meaning) (a b w : ℕ) → (k.describe m).touches a b ≡ false → k.look (k.put m a w) b ≡ k.look m b
  -- A put under a number that is no name does nothing.
  pub put_nowhere : (m : k.Meaning) (a w : ℕ) → (k.describe m).names ≤ a → k.put m a w ≡ m
  -- A loss leaves the look of each name that is kept over it.
  pub loss_keeps : (m : k.Meaning) (l : Loss) (a w : ℕ) → (k.describe m).kept_over l a ≡ true → k.look (k.lose m l w) a ≡ k.look m a
