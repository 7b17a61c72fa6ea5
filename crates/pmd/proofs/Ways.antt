-- Lemmas: each job gets a ring for its reports, one job after the other.
use Rattle.std.proofs.Common.{◌≡◌, ℕ, zero, suc, ◌+◌, ◌≤◌, ◌<◌, List, [], ◌∷◌, ◌++◌, length, take, slice_index_or, refl, ap, ◌∙◌, subst, add-one, arith}
use Rattle.std.specs.Vec.{vec_capacity}
use Rattle.std.specs.declared.alloc.Global.{Global}
use Rattle.rtrb.specs.Ring.{sent, known_free, IsPair}
use Rattle.rtrb.specs.declared.AnyItems.{AnyItems}
use Rattle.rtrb.specs.declared.producer.Producer.{Producer}
use Rattle.pmd.specs.declared.job.Job.{Job}
use Rattle.pmd.specs.declared.reports.Collector.{Collector}
use Rattle.pmd.specs.declared.reports.Report.{Report}
use Rattle.pmd.specs.Coming.{AreWays}

take_more : (n : ℕ) (jobs : List Job) (j : Job) → n < length jobs
    → take (suc n) jobs ≡ take n jobs ++ slice_index_or jobs n j ∷ []
take_more n [] j less = absurd (omega (arith, less))
take_more zero (x ∷ jobs) j less = refl
take_more (suc n) (x ∷ jobs) j less = ap (λ (l : List Job). x ∷ l) (take_more n jobs j (omega (arith, less)))

pub take_next : (n : ℕ) (jobs : List Job) (j : Job) → n < length jobs
    → take (n + 1) jobs ≡ take n jobs ++ slice_index_or jobs n j ∷ []
take_next n jobs j less = ap (λ (k : ℕ). take k jobs) (add-one n) ∙ take_more n jobs j less

take_all : (n : ℕ) (jobs : List Job) → length jobs ≤ n → take n jobs ≡ jobs
take_all zero [] most = refl
take_all (suc n) [] most = refl
take_all zero (j ∷ jobs) most = absurd (omega (arith, most))
take_all (suc n) (j ∷ jobs) most = ap (λ (l : List Job). j ∷ l) (take_all n jobs (omega (arith, most)))

-- If the first `n` jobs have rings and there are no more jobs, all jobs have rings.
pub ways_all : (n : ℕ) (jobs : List Job) (ps : List (Producer Report Global AnyItems)) (cs : List Collector)
    → length jobs ≤ n → AreWays (take n jobs) ps cs → AreWays jobs ps cs
ways_all n jobs ps cs most ways = subst (λ (l : List Job). AreWays l ps cs) (take_all n jobs most) ways

pub ways_more : (jobs : List Job) (ps : List (Producer Report Global AnyItems)) (cs : List Collector) (j : Job)
    (p : Producer Report Global AnyItems) (c : Collector) → AreWays jobs ps cs
    → IsPair p c.consumer × (sent p ≡ []) × (j.rounds ≤ known_free p) × (j.rounds ≤ vec_capacity c.reports)
    → AreWays (jobs ++ j ∷ []) (ps ++ p ∷ []) (cs ++ c ∷ [])
ways_more [] [] [] j p c ways (pair, fresh, free, room) = (pair, fresh, free, room, tt)
ways_more (k ∷ jobs) (q ∷ ps) (d ∷ cs) j p c (pair, fresh, free, room, ways) way =
    (pair, fresh, free, room, ways_more jobs ps cs j p c ways way)
ways_more [] (q ∷ ps) cs j p c ways way = absurd ways
ways_more [] [] (d ∷ cs) j p c ways way = absurd ways
ways_more (k ∷ jobs) [] cs j p c ways way = absurd ways
ways_more (k ∷ jobs) (q ∷ ps) [] j p c ways way = absurd ways
