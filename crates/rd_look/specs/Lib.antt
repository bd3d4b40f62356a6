-- What a look finds, how it ends, and what the job to keep its body shows (RFC 7252 section
-- 5.10.6.2, RFC 7959 section 2.4).
pub mod Looking
pub mod KeepJobs
