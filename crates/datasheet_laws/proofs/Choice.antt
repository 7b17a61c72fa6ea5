-- Which queue and which RSS type a frame has, and which writes request a reset.
use Rattle.std.proofs.Common.{◌≡◌, ◌≢◌, ℕ, zero, suc, ◌+◌, ◌*◌, ◌/◌, ◌%◌, ◌^◌, ◌<◌, ◌==◌, Bool, true, false, cond, ◌&&◌, ◌⊎◌, List, [], Ok, Err, if◌then◌else◌, refl, ap, sym, ◌∙◌, subst, inl, inr, arith, lit<, length}
use Rattle.std.specs.Prelude.{slice_index, Result}
use Rattle.std.proofs.lemmas.Bool.{cond-true, cond-false, ne_eqb}
use Rattle.reg_table.specs.declared.rows.RowId.TheVariants as row
use Rattle.register_file.specs.Pools.{mode_in}
use Rattle.vf_map.specs.declared.mode.Mode.TheVariants as mode
use Rattle.rss_hash.specs.Choice.{code_of, rss_type_of, first_enabled}
use Rattle.rss_hash.specs.Mrqc.{queue_mode_of, is_hashing}
use Rattle.rss_hash.specs.declared.choice.RssType.{RssType}
use Rattle.rss_hash.specs.declared.choice.RssType.TheVariants.{NoHash, TcpIpv4, Ipv4, TcpIpv6, Ipv6, UdpIpv4, UdpIpv6}
use Rattle.rss_hash.specs.declared.mrqc.QueueMode.{QueueMode}
use Rattle.rss_hash.specs.declared.mrqc.QueueMode.TheVariants.{Single, Rss, Vmdq64, Vmdq32Rss, Vmdq64Rss}
use Rattle.rss_hash.proofs.RegisterBytes.{register_byte_at}
use Rattle.rss_hash.proofs.Types.{ipv4_types, ipv6_types, no_types}
use Rattle.rx_filter.specs.Address.{passes}
use Rattle.rx_filter.specs.Pools.{chosen_pool}
use Rattle.rx_filter.specs.Sorting.{rss_type, rss_hash, rss_entry, target_of, pool_target, sorted}
use Rattle.rx_filter.specs.declared.unwanted.Unwanted.{Unwanted}
use Rattle.rx_filter.proofs.Queues.{queues_by_mode}
use Rattle.rx_filter.proofs.Sorted.{sorted-let_in}
use Rattle.datasheet_laws.specs.NumberPrelude.{Flow, HasShape, Mode, Registers, RowId, Target, asks_pool_reset, asks_reset}
use Rattle.datasheet_laws.specs.NumberPrelude.{has_bit, row_of, row_words, to_le_bytes, w32, word_of}
use Rattle.datasheet_laws.specs.ByAddress.{word, holds}
use Rattle.datasheet_laws.specs.Choice.{IsHashing, IsType, Has, HasTypes, TypesAreChosen, ChoosesQueues, QueuesAreChosen, ResetsAreAsked}
use Rattle.datasheet_laws.proofs.ByAddress.{word-at}

-- The mode that MRQC bits 3 to 0 select.
abbrev mode_by : ℕ → QueueMode
mode_by n =
    if n == 0x1 then Rss
    else (if n == 0x8 then Vmdq64
    else (if n == 0xA then Vmdq32Rss
    else (if n == 0xB then Vmdq64Rss else Single)))

by_bits : (mrqc : ℕ) → queue_mode_of mrqc ≡ mode_by (mrqc % 16)
unfolding queue_mode_of
by_bits mrqc = refl

coded : (mrqc n : ℕ) → mrqc % 16 ≡ n → queue_mode_of mrqc ≡ mode_by n
coded mrqc n e = by_bits mrqc ∙ ap mode_by e

hashes : (mrqc : ℕ) → IsHashing mrqc → is_hashing (queue_mode_of mrqc) ≡ true
hashes mrqc (inl one) = ap is_hashing (coded mrqc 1 one)
hashes mrqc (inr (inl ten)) = ap is_hashing (coded mrqc 0xA ten)
hashes mrqc (inr (inr eleven)) = ap is_hashing (coded mrqc 0xB eleven)

last : (b : Bool) → is_hashing (cond b Vmdq64 Single) ≡ false
last true = refl
last false = refl

rests : (n : ℕ) → n ≢ 1 → n ≢ 0xA → n ≢ 0xB → is_hashing (mode_by n) ≡ false
rests n one ten eleven = rw (ne_eqb n 1 one, ne_eqb n 0xA ten, ne_eqb n 0xB eleven) (last (n == 8))

no_hash : (mrqc : ℕ) → ¬ IsHashing mrqc → is_hashing (queue_mode_of mrqc) ≡ false
no_hash mrqc off =
    ap is_hashing (by_bits mrqc)
    ∙ rests (mrqc % 16) (λ e. off (inl e)) (λ e. off (inr (inl e))) (λ e. off (inr (inr e)))

module _ (mrqc : ℕ) (flow : Flow) where
  on_type : IsHashing mrqc → rss_type_of mrqc flow ≡ first_enabled mrqc flow
  unfolding rss_type_of
  on_type on = cond-true (is_hashing (queue_mode_of mrqc)) (first_enabled mrqc flow) NoHash (hashes mrqc on)

  off_type : ¬ IsHashing mrqc → rss_type_of mrqc flow ≡ NoHash
  unfolding rss_type_of
  off_type off = cond-false (is_hashing (queue_mode_of mrqc)) (first_enabled mrqc flow) NoHash (no_hash mrqc off)

  four : IsHashing mrqc → flow.version ≡ 4 → (a b c : Bool) → (flow.tcp && has_bit 16 mrqc) ≡ a
      → (flow.udp && has_bit 22 mrqc) ≡ b → has_bit 17 mrqc ≡ c
      → rss_type_of mrqc flow ≡ cond a TcpIpv4 (cond b UdpIpv4 (cond c Ipv4 NoHash))
  four on is a b c tcp udp any =
      on_type on ∙ ipv4_types mrqc flow is
      ∙ (λ k. cond (tcp k) TcpIpv4 (cond (udp k) UdpIpv4 (cond (any k) Ipv4 NoHash)))

  six : IsHashing mrqc → flow.version ≡ 6 → (a b c : Bool) → (flow.tcp && has_bit 21 mrqc) ≡ a
      → (flow.udp && has_bit 23 mrqc) ≡ b → has_bit 20 mrqc ≡ c
      → rss_type_of mrqc flow ≡ cond a TcpIpv6 (cond b UdpIpv6 (cond c Ipv6 NoHash))
  six on is a b c tcp udp any =
      on_type on ∙ ipv6_types mrqc flow is
      ∙ (λ k. cond (tcp k) TcpIpv6 (cond (udp k) UdpIpv6 (cond (any k) Ipv6 NoHash)))

  typed : (t : RssType) → rss_type_of mrqc flow ≡ t → (code : ℕ) (part : List ℕ) → IsType t code flow.input part
      → Has mrqc flow code part
  typed t is code part has = subst (λ u. IsType u code flow.input part) (sym is) has

  none : rss_type_of mrqc flow ≡ NoHash → Has mrqc flow 0 []
  none is = typed NoHash is 0 [] (record { number = refl; hashes = refl })

  pub types : HasTypes mrqc flow
  types = record {
    tcp_4 = λ on is tcp. typed TcpIpv4 (four on is true _ _ tcp refl refl) 1 flow.input
        (record { number = refl; hashes = refl });
    udp_4 = λ on is tcp udp. typed UdpIpv4 (four on is false true _ tcp udp refl) 7 flow.input
        (record { number = refl; hashes = refl });
    any_4 = λ on is tcp udp any. typed Ipv4 (four on is false false true tcp udp any) 2 _
        (record { number = refl; hashes = refl });
    no_4 = λ on is tcp udp any. none (four on is false false false tcp udp any);
    tcp_6 = λ on is tcp. typed TcpIpv6 (six on is true _ _ tcp refl refl) 3 flow.input
        (record { number = refl; hashes = refl });
    udp_6 = λ on is tcp udp. typed UdpIpv6 (six on is false true _ tcp udp refl) 8 flow.input
        (record { number = refl; hashes = refl });
    any_6 = λ on is tcp udp any. typed Ipv6 (six on is false false true tcp udp any) 5 _
        (record { number = refl; hashes = refl });
    no_6 = λ on is tcp udp any. none (six on is false false false tcp udp any);
    other = λ on not_four not_six. none (on_type on ∙ no_types mrqc flow not_four not_six);
    off = λ off. none (off_type off);
  }

pub types_chosen : TypesAreChosen
types_chosen mrqc flow = types mrqc flow

-- The queue.

abbrev part_by : ℕ → Mode
part_by n =
    if n == 0 then mode.Off else (if n == 1 then mode.Pools16 else (if n == 2 then mode.Pools32 else mode.Pools64))

never : (a b : Bool) → cond a mode.Off (cond b mode.Pools32 mode.Pools64) ≢ mode.Pools16
never true b e = cc
never false true e = cc
never false false e = cc

no_sixteen : (n : ℕ) → n ≢ 1 → part_by n ≢ mode.Pools16
no_sixteen n apart = rw (ne_eqb n 1 apart) (never (n == 0) (n == 2))

module _ (r : Registers) (h : HasShape r) (frame : List ℕ) (t : Target) (goes : sorted r frame ≡ Ok t) where
  code : (n : ℕ) → word r 0x05818 % 16 ≡ n → queue_mode_of (word_of r row.Mrqc 0) ≡ mode_by n
  code n e = coded (word_of r row.Mrqc 0) n (sym (ap (λ w. w % 16) (word-at r row.Mrqc 0 (lit< tt))) ∙ e)

  parting : word_of r row.GcrExt 0 % 4 ≡ word r 0x11050 % 4
  parting = sym (ap (λ w. w % 4) (word-at r row.GcrExt 0 (lit< tt)))

  sixteen : word r 0x11050 % 4 ≡ 1 → mode_in r ≡ mode.Pools16
  sixteen e = ap part_by (parting ∙ e)

  others : word r 0x11050 % 4 ≢ 1 → mode_in r ≢ mode.Pools16
  others apart is = no_sixteen (word_of r row.GcrExt 0 % 4) (λ e. apart (sym parting ∙ e)) is

  digit : (w k : ℕ) → k < 4 → slice_index (to_le_bytes w32 w) k % 16 ≡ w / 2 ^ (8 * k) % 16
  digit w zero low = omega arith
  digit w (suc zero) low = omega arith
  digit w (suc (suc zero)) low = omega arith
  digit w (suc (suc (suc zero))) low = omega arith
  digit w (suc (suc (suc (suc k)))) low = absurd (omega arith)

  entry_is : code_of (rss_type r frame) ≢ 0 → rss_entry r frame
      ≡ word r (0x05C00 + 4 * (rss_hash r frame % 128 / 4)) / 2 ^ (8 * (rss_hash r frame % 4)) % 16
  entry_is has =
      let n = rss_hash r frame % 128 in
      let many : length (row_words r.words row.Reta) ≡ 32 = h.has_indices row.Reta in
      let same : n % 4 ≡ rss_hash r frame % 4 = omega arith in
      queues_by_mode.entry r frame has
      ∙ ap (λ byte. byte % 16) (register_byte_at (row_words r.words row.Reta) n (omega (arith, many)))
      ∙ digit (word_of r row.Reta (n / 4)) (n % 4) (omega arith)
      ∙ (λ k. sym (word-at r row.Reta (n / 4) (omega arith)) k / 2 ^ (8 * same k) % 16)

  by_target : (chosen : Result ℕ Unwanted) → pool_target r frame chosen ≡ Ok t
      → t.hash ≡ cond (has_bit 13 (word_of r row.Rxcsum 0)) (rss_hash r frame) 0
  unfolding target_of
  by_target (Err why) e = cc
  by_target (Ok pool) e =
      let same : target_of r frame pool ≡ t = cc in ap (λ (u : Target). u.hash) (sym same)

  hash_is : t.hash ≡ cond (has_bit 13 (word_of r row.Rxcsum 0)) (rss_hash r frame) 0
  unfolding sorted
  hash_is =
      by_target (chosen_pool r frame)
      (sorted-let_in (passes r frame) (pool_target r frame (chosen_pool r frame)) t goes)

  tells : holds r 0x05000 13 ≡ has_bit 13 (word_of r row.Rxcsum 0)
  tells = ap (has_bit 13) (word-at r row.Rxcsum 0 (lit< tt))

  either : (word r 0x05818 % 16 ≡ 0xA) ⊎ (word r 0x05818 % 16 ≡ 0xB)
      → (queue_mode_of (word_of r row.Mrqc 0) ≡ Vmdq32Rss) ⊎ (queue_mode_of (word_of r row.Mrqc 0) ≡ Vmdq64Rss)
  either (inl ten) = inl (code 0xA ten)
  either (inr eleven) = inr (code 0xB eleven)

  queues : ChoosesQueues r t frame
  queues = record {
    hashing = λ one. queues_by_mode.hashing r frame t goes (code 1 one);
    first_of_two = λ pool g other eight. queues_by_mode.pools_64 r frame pool t g (others other) (code 8 eight);
    of_four = λ pool g other ten. queues_by_mode.pools_32_hashing r frame pool t g (others other) (code 0xA ten);
    of_two = λ pool g other eleven. queues_by_mode.pools_64_hashing r frame pool t g (others other) (code 0xB eleven);
    first_of_eight = λ pool g is eight. queues_by_mode.pools_16 r frame pool t g (sixteen is) (code 8 eight);
    of_eight = λ pool g is which. queues_by_mode.pools_16_hashing r frame pool t g (sixteen is) (either which);
    entry = entry_is;
    reported = λ on. hash_is
        ∙ cond-true (has_bit 13 (word_of r row.Rxcsum 0)) (rss_hash r frame) 0 (sym tells ∙ on);
    unreported = λ off. hash_is
        ∙ cond-false (has_bit 13 (word_of r row.Rxcsum 0)) (rss_hash r frame) 0 (sym tells ∙ off);
  }

pub queues_chosen : QueuesAreChosen
queues_chosen r h frame t goes = queues r h frame t goes

-- Resets.

no_reset : (x : RowId) (w : ℕ) → x ≢ row.Ctrl → asks_reset (row_of x).kind w ≡ false
no_reset row.Ctrl w apart = absurd (apart refl)
no_reset x w apart = refl

no_pool_reset : (x : RowId) (w : ℕ) → x ≢ row.Pvfctrl → asks_pool_reset (row_of x).kind w ≡ false
no_pool_reset row.Pvfctrl w apart = absurd (apart refl)
no_pool_reset x w apart = refl

pub resets : ResetsAreAsked
resets w = record {
  control = refl;
  pool = refl;
  only = λ x apart. no_reset x w apart;
  only_pool = λ x apart. no_pool_reset x w apart;
}
