pub mod TouchedExchanges
pub mod AdmissionsInOrder
pub mod OpenAdmissions
pub mod CommitsOnce
pub mod OpenForOthers
pub mod MachineJournals
