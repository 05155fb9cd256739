-- The laws of a frame, from those of the bank below it.
use Rattle.std.specs.Prelude.{◌≡◌, ℕ, ◌+◌, ◌-◌, ◌*◌, ◌%◌, ◌^◌, ◌<◌, ◌≤◌, Bool, true, false, cond, ◌&&◌, ltb, List, length, Some, None, Option, ◌==◌, nat_le, nat_lt, slice_index, slice_index_or, refl}
use Rattle.std.proofs.Common.{sym, ap, ap₂, ◌∙◌, arith}
use Rattle.std.proofs.Math.Path.{fun_ext}
use Rattle.std.proofs.lemmas.List.{get_or_past, get_or-take, length-take, take_all}
use Rattle.std.proofs.lemmas.Bool.{lt-ltb, le-ltb, le-leb, cond-true}
use Rattle.std.proofs.lemmas.Bool.Decides.{nat_tests}
use Rattle.banks.specs.declared.fault.BankFault.TheVariants.{Names}
use Rattle.banks.specs.declared.fault.BankFault.{BankFault}
use Rattle.banks.specs.Firsts.{◌otherwise◌}
use Rattle.banks.specs.Frame.{with_slots, named, slot_at, Framed, over, names_below, slots_of, with_below, with_slot_words, frame}
use Rattle.banks.specs.Kind.{Description, Kind, Described, Laws}
use Rattle.banks.specs.Made.{table_fault, frame_fault}
use Rattle.banks.specs.Table.{all_widths, cell_look, table_put}
use Rattle.banks.specs.Words.{lowest}
use Rattle.banks.specs.Splits.{by_order}
use Rattle.banks.specs.Tables.{width_at, widths_take, good_cells, same_table, cell_fits, cell_seen, cell_left, cell_none, take_past}

-- The slots that have a name.
few_named : (n : ℕ) (ws : List ℕ) → n ≤ 64 → n + length (named n ws) ≤ 64
few_named n ws h = omega (arith, length-take (64 - n) ws)

slots_described : (d : Description) (ws : List ℕ) → Described d → all_widths ws ≡ true → d.names + length ws ≤ 64 → Described (with_slots d ws)
slots_described d ws D good few = record {
  some = omega (arith, D.some);
  few = few;
  widths = λ a h. by_order a d.names (λ l e. simp e (D.widths a l)) (λ l e. simp e (width_at ws good (a - d.names) (omega arith)));
  touches_itself = λ a h. by_order a d.names (λ l e. simp e (D.touches_itself a l)) (λ l e. simp e (grind (arith, nat_tests)));
  touches_back = back;
  no_width = λ a h. by_order a d.names (λ l e. absurd (omega arith)) (λ l e. simp e (get_or_past ws (a - d.names) 0 (omega arith)));
  no_touch = λ a b h. by_order a d.names (λ l e. absurd (omega arith)) (λ l e. simp e (grind (arith, nat_tests)));
  not_over = λ x a h. by_order a d.names (λ l e. absurd (omega arith)) (λ l e. simp e (grind (arith, nat_tests)));
}
  where
    -- a name below does not touch a slot
    apart : (a b : ℕ) → a < d.names → d.names ≤ b → (with_slots d ws).touches a b ≡ (with_slots d ws).touches b a
    apart a b la lb = by_order a d.names
        (λ l e. by_order b d.names
        (λ m f. absurd (omega arith))
        (λ m f. simp (e, f) (D.touches_back a b ∙ D.no_touch b a lb ∙ sym (grind (arith, nat_tests)))))
        (λ l e. absurd (omega arith))

    back : (a b : ℕ) → (with_slots d ws).touches a b ≡ (with_slots d ws).touches b a
    back a b = by_order a d.names
        (λ la ea. by_order b d.names
        (λ lb eb. simp (ea, eb) (D.touches_back a b))
        (λ lb eb. apart a b la lb))
        (λ la ea. by_order b d.names
        (λ lb eb. sym (apart b a lb la))
        (λ lb eb. simp (ea, eb) (grind (arith, nat_tests))))

-- Slots that are a table and all get a name are not refused.
pub no_fault : (n : ℕ) (ws : List ℕ) → None ≡ table_fault 32 ws → n + length ws ≤ 64 → None ≡ frame_fault n ws
no_fault n ws e h = ap (λ (o : Option BankFault). o otherwise None) e ∙ ap (λ (o : Option BankFault). table_fault 32 ws otherwise o) (sym (cond-true (nat_le (n + length ws) 64) None (Some Names) (le-leb (n + length ws) 64 h)))

-- A frame all of whose slots get a name is described as it was declared.
pub as_declared : (k : Kind) (m : Framed k) (ws : List ℕ) → m.slots.widths ≡ ws → names_below k m + length ws ≤ 64 → (frame k).describe m ≡ with_slots (k.describe m.below) ws
as_declared k m ws e h = ap (with_slots (k.describe m.below)) (ap (named (names_below k m)) e ∙ take_all (64 - names_below k m) ws (omega arith))

module _ (k : Kind) (m : Framed k) where
  -- A frame over a bank that changed but is described as before looks there for names below, and into its slots for others.
  changed_look : (p : k.Meaning) → k.describe p ≡ k.describe m.below → (b : ℕ)
      → (frame k).look (with_below k m p) b ≡ cond (nat_lt b (names_below k m)) (k.look p b) (cell_look (slots_of k m) m.slots.words (b - names_below k m))
  changed_look p e b = ap (λ (d : Description). cond (nat_lt b d.names) (k.look p b) (cell_look (named d.names m.slots.widths) m.slots.words (b - d.names))) e

  changed_described : (p : k.Meaning) → k.describe p ≡ k.describe m.below → (frame k).describe (with_below k m p) ≡ (frame k).describe m
  changed_described p e = ap (λ (d : Description). with_slots d (named d.names m.slots.widths)) e

  -- Where the bank below keeps a look, the frame does.
  kept_look : (p : k.Meaning) → k.describe p ≡ k.describe m.below → (b : ℕ) → (b < names_below k m → k.look p b ≡ k.look m.below b)
      → (frame k).look (with_below k m p) b ≡ (frame k).look m b
  kept_look p e b h = changed_look p e b ∙ by_order b (names_below k m) (λ l t. simp t (h l)) (λ l t. simp t)

  -- A number past the slots puts nothing.
  put_past : (a w : ℕ) → names_below k m ≤ a → length (slots_of k m) ≤ a - names_below k m → (frame k).put m a w ≡ m
  put_past a w l h = simp (le-ltb a (names_below k m) l) (ap (over k m.below) (same_table _ m.slots refl (cell_none (slots_of k m) m.slots.words (a - names_below k m) w h)))

  -- Slots that lie apart as names lie apart as cells.
  slots_apart : (a b : ℕ) → names_below k m ≤ a → names_below k m ≤ b → (a == b && nat_lt a (names_below k m + length (slots_of k m))) ≡ false
      → (a - names_below k m == b - names_below k m && nat_lt (a - names_below k m) (length (slots_of k m))) ≡ false
  slots_apart a b la lb h = grind (arith, nat_tests)

  module _ (L : Laws k) where
    D : Described (k.describe m.below)
    D = L.described m.below

    pub frame_described : Described ((frame k).describe m)
    frame_described = slots_described (k.describe m.below) (slots_of k m) D (widths_take (64 - names_below k m) m.slots.widths (good_cells m.slots)) (few_named (names_below k m) m.slots.widths D.few)

    put_seen_lem : (a w : ℕ) → a < ((frame k).describe m).names → (frame k).look ((frame k).put m a w) a ≡ w % 2 ^ (8 * ((frame k).describe m).width a)
    put_seen_lem a w h = by_order a (names_below k m)
        (λ l e. simp e (changed_look (k.put m.below a w) (L.put_stays m.below a w) a ∙ simp e (L.put_seen m.below a w l)))
        (λ l e. simp e (cell_seen (slots_of k m) m.slots.words (a - names_below k m) w (omega arith)))

    put_leaves_lem : (a b w : ℕ) → ((frame k).describe m).touches a b ≡ false → (frame k).look ((frame k).put m a w) b ≡ (frame k).look m b
    put_leaves_lem a b w h = by_order a (names_below k m)
        (λ la ea. simp ea (kept_look (k.put m.below a w) (L.put_stays m.below a w) b (λ _. L.put_leaves m.below a b w (simp ea at h))))
        (λ la ea. by_order b (names_below k m)
        (λ lb eb. simp (ea, eb))
        (λ lb eb. simp (ea, eb) (cell_left (slots_of k m) m.slots.words (a - names_below k m) (b - names_below k m) w (slots_apart a b la lb (simp ea at h)))))

    put_nowhere_lem : (a w : ℕ) → ((frame k).describe m).names ≤ a → (frame k).put m a w ≡ m
    put_nowhere_lem a w h = put_past a w (omega arith) (omega arith)

-- A frame keeps the laws, if the bank below does.
pub frame_laws : (k : Kind) → Laws k → Laws (frame k)
frame_laws k L = record {
  described = λ m. frame_described k m L;
  put_stays = λ m a w. by_order a (names_below k m) (λ l e. simp e (changed_described k m (k.put m.below a w) (L.put_stays m.below a w))) (λ l e. simp e);
  loss_stays = λ m x w. changed_described k m (k.lose m.below x w) (L.loss_stays m.below x w);
  look_fits = λ m a. by_order a (names_below k m) (λ l e. simp e (L.look_fits m.below a)) (λ l e. simp e (cell_fits (slots_of k m) m.slots.words (a - names_below k m)));
  put_seen = λ m. put_seen_lem k m L;
  put_leaves = λ m. put_leaves_lem k m L;
  put_nowhere = λ m. put_nowhere_lem k m L;
  loss_keeps = λ m x a w h. kept_look k m (k.lose m.below x w) (L.loss_stays m.below x w) a (λ l. L.loss_keeps m.below x a w (simp (lt-ltb a (names_below k m) l) at h));
}

-- What the table of slots answers, of those that have a name; n is the number of names below, as the bank told it.
module _ (k : Kind) (m : Framed k) (n a : ℕ) (e : n ≡ names_below k m) (l : n ≤ a) where
  slot : ltb a (names_below k m) ≡ false
  slot = le-ltb a (names_below k m) (omega arith)

  module _ (h : a < 64) where
    same_width : slice_index_or m.slots.widths (a - n) 0 ≡ slice_index (slots_of k m) (a - names_below k m)
    same_width = ap (λ (x : ℕ). slice_index m.slots.widths (a - x)) e ∙ sym (get_or-take (64 - names_below k m) m.slots.widths (a - names_below k m) 0 (omega arith))

    pub slot_width : slice_index_or m.slots.widths (a - n) 0 ≡ ((frame k).describe m).width a
    slot_width = simp slot same_width

    pub slot_look : cell_look m.slots.widths m.slots.words (a - n) ≡ (frame k).look m a
    slot_look = simp slot (ap₂ (λ (x y : ℕ). lowest (m.slots.words (a - x)) y) e same_width)

    pub slot_put : (w : ℕ) → over k m.below (table_put m.slots (a - n) w) ≡ (frame k).put m a w
    slot_put w = simp slot (ap (with_slot_words k m) (fun_ext (λ b. ap₂ (λ (x : ℕ) (t : Bool). cond (a - x == b && t) w (m.slots.words b)) e there)))
      where
        there : ltb (a - n) (length m.slots.widths) ≡ nat_lt (a - names_below k m) (length (slots_of k m))
        there = rw (length-take (64 - names_below k m) m.slots.widths) (grind (arith, nat_tests))

  module _ (h : 64 ≤ a) where
    no_width_lem : slice_index_or (slots_of k m) (a - names_below k m) 0 ≡ 0
    no_width_lem = take_past (64 - names_below k m) m.slots.widths (a - names_below k m) (omega arith)

    pub past_width : 0 ≡ ((frame k).describe m).width a
    past_width = simp slot (sym no_width_lem)

    pub past_look : 0 ≡ (frame k).look m a
    past_look = simp slot (rw no_width_lem (omega arith))

    pub past_put : (w : ℕ) → m ≡ (frame k).put m a w
    past_put w = sym (put_past k m a w (omega arith) (omega (arith, length-take (64 - names_below k m) m.slots.widths)))

-- A name that is a slot has what the table has there.
module _ (k : Kind) (m : Framed k) (a s : ℕ) (e : slot_at (names_below k m) a ≡ Some s) where
  at_slot : (names_below k m ≤ a) × (a < 64) × (s ≡ a - names_below k m)
  at_slot = grind (arith, nat_tests, e)

  pub slot_has_width : slice_index m.slots.widths s ≡ ((frame k).describe m).width a
  slot_has_width = ap (slice_index m.slots.widths) at_slot.2 ∙ slot_width k m (names_below k m) a refl at_slot.0 at_slot.1

  pub slot_has_look : cell_look m.slots.widths m.slots.words s ≡ (frame k).look m a
  slot_has_look = ap (cell_look m.slots.widths m.slots.words) at_slot.2 ∙ slot_look k m (names_below k m) a refl at_slot.0 at_slot.1

  pub slot_is_put : (w : ℕ) → over k m.below (table_put m.slots s w) ≡ (frame k).put m a w
  slot_is_put w = ap (λ (x : ℕ). over k m.below (table_put m.slots x w)) at_slot.2 ∙ slot_put k m (names_below k m) a refl at_slot.0 at_slot.1 w

-- One that is no slot has what the bank below has: a name below, or nothing from 64 on.
module _ (k : Kind) (m : Framed k) (L : Laws k) (a : ℕ) (e : slot_at (names_below k m) a ≡ None) where
  past : names_below k m ≤ a → 64 ≤ a
  past l = grind (arith, nat_tests, e)

  pub below_has_width : (k.describe m.below).width a ≡ ((frame k).describe m).width a
  below_has_width = by_order a (names_below k m)
      (λ l t. simp t)
      (λ l t. (L.described m.below).no_width a l ∙ past_width k m (names_below k m) a refl l (past l))

  pub below_has_look : k.look m.below a ≡ (frame k).look m a
  below_has_look = by_order a (names_below k m)
      (λ l t. simp t)
      (λ l t. nothing l ∙ past_look k m (names_below k m) a refl l (past l))
    where
      nothing : names_below k m ≤ a → k.look m.below a ≡ 0
      nothing l = let b : k.look m.below a < 1 = rw ((L.described m.below).no_width a l) at (L.look_fits m.below a) in omega arith

  pub below_is_put : (w : ℕ) → with_below k m (k.put m.below a w) ≡ (frame k).put m a w
  below_is_put w = by_order a (names_below k m)
      (λ l t. simp t)
      (λ l t. ap (with_below k m) (L.put_nowhere m.below a w l) ∙ past_put k m (names_below k m) a refl l (past l) w)
